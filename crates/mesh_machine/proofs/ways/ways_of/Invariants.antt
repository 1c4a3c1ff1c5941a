use Rattle.mesh_machine.proofs.Common.{AreArcsOut}
use Rattle.mesh_machine.proofs.ways.ways_of.Given as goal

abbrev pub invariant-loop-x : goal.invariant-loop-x
invariant-loop-x l = AreArcsOut l.arcs l.routers l.x l.ways
