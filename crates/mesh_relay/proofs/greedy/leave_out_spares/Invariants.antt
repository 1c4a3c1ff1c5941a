use Rattle.mesh_relay.proofs.Common.{◌≡◌, ◌≤◌, ◌<◌, All, length}
use Rattle.mesh_relay.specs.declared.greedy.Own.{Own}
use Rattle.mesh_relay.proofs.greedy.leave_out_spares.Given as goal

abbrev pub invariant-loop-place : goal.invariant-loop-place
invariant-loop-place l = (length l.taken ≡ length l.willing) × (l.place ≤ length l.willing) × All (λ (o : Own). o.begin < length l.takers) l.owns

abbrev pub decreases-loop-place : goal.decreases-loop-place
decreases-loop-place l = l.place
