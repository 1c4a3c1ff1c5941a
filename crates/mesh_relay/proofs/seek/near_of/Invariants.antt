use Rattle.mesh_relay.proofs.Common.{◌≡◌, drop, near_from}
use Rattle.mesh_relay.proofs.seek.near_of.Given as goal

abbrev pub invariant-loop-place : goal.invariant-loop-place
invariant-loop-place l = near_from l.place (drop l.place l.willing) l.id ≡ near_from 0 l.willing l.id
