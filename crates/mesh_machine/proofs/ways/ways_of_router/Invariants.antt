use Rattle.mesh_machine.proofs.Common.{AreWaysOf}
use Rattle.mesh_machine.proofs.ways.ways_of_router.Given as goal

abbrev pub invariant-loop-iface : goal.invariant-loop-iface
invariant-loop-iface l = AreWaysOf l.arcs l.router l.iface l.ways
