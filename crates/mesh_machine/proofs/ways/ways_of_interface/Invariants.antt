use Rattle.mesh_machine.proofs.Common.{◌≡◌, ◌++◌, leaving}
use Rattle.mesh_machine.proofs.ways.ways_of_interface.Given as goal
use Rattle.mesh_machine.proofs.Leaving.{leaving_from}

abbrev pub invariant-loop-number : goal.invariant-loop-number
invariant-loop-number l = l.ways ++ leaving_from l.arcs l.router l.iface l.number ≡ leaving l.arcs l.router l.iface
