use Rattle.mesh_relay.proofs.Common.{◌≡◌, ◌<◌, ℕ, true, false, get_or, Near, IsAt, is_fit}
use Rattle.mesh_relay.proofs.soles.are_fit.Given as goal

abbrev pub invariant-loop-place : goal.invariant-loop-place
invariant-loop-place l = (k : ℕ) (n : Near) → k < l.place → IsAt l.willing k n → is_fit n (get_or l.taken k false) (get_or l.soles k false) ≡ true
