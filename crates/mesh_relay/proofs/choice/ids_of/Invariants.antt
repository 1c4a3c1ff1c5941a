use Rattle.mesh_relay.proofs.Common.{◌≡◌, ◌++◌, drop, ids_of}
use Rattle.mesh_relay.proofs.choice.ids_of.Given as goal

abbrev pub invariant-loop-place : goal.invariant-loop-place
invariant-loop-place l = l.ids.items ++ ids_of (drop l.place l.willing) (drop l.place l.taken) ≡ ids_of l.willing l.taken
