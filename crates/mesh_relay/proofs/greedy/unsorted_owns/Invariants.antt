use Rattle.mesh_relay.proofs.Common.{◌≤◌, length}
use Rattle.mesh_relay.specs.Owns.{AreBelow}
use Rattle.mesh_relay.proofs.greedy.unsorted_owns.Given as goal

abbrev pub invariant-loop-at : goal.invariant-loop-at
invariant-loop-at l = (l.begin ≤ l.at) × AreBelow (length l.ways) l.owns.items
