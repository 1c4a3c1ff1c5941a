use Rattle.mesh_relay.proofs.Common.{◌≡◌, length, free_count}
use Rattle.mesh_relay.proofs.greedy.take_best.Given as goal

abbrev pub invariant-loop-place : goal.invariant-loop-place
invariant-loop-place l = (length l.taken ≡ length l.gains) × (length l.reached ≡ length l.ways)

abbrev pub decreases-loop-place : goal.decreases-loop-place
decreases-loop-place l = free_count l.taken
