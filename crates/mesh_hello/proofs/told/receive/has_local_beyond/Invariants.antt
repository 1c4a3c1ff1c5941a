use Rattle.mesh_hello.proofs.Common.{◌≡◌, ◌≢◌, ℕ, ◌<◌, get_or, IsLocalWith}
use Rattle.mesh_hello.proofs.told.receive.has_local_beyond.Given as goal

abbrev pub invariant-loop-row : goal.invariant-loop-row
invariant-loop-row l = (k : ℕ) (row : _) → k < l.row-index → get_or l.hello.rows k row ≡ row → IsLocalWith (λ a. a ≢ l.first) row → ⊥
