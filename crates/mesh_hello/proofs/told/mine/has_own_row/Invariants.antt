use Rattle.mesh_hello.proofs.Common.{◌≡◌, ℕ, ◌<◌, get_or, HelloRow, Bears, IsMyRow}
use Rattle.mesh_hello.proofs.told.mine.has_own_row.Given as goal

abbrev pub invariant-loop-row : goal.invariant-loop-row
invariant-loop-row l = (k : ℕ) (row : HelloRow) → k < l.row-index → get_or l.hello.rows k row ≡ row → IsMyRow l.own row → Bears l.sign row → ⊥
