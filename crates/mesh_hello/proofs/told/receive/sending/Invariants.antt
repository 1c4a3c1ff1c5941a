use Rattle.mesh_hello.proofs.Common.{◌≡◌, ℕ, ◌<◌, get_or, This, IsLocalRow}
use Rattle.mesh_hello.proofs.told.receive.sending.Given as goal

abbrev pub invariant-loop-row : goal.invariant-loop-row
invariant-loop-row l = (k : ℕ) (row : _) (a : _) → k < l.row-index → get_or l.hello.rows k row ≡ row → IsLocalRow row a This → ⊥
