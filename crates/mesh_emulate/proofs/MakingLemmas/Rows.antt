-- The rows of a grid.
use Rattle.mesh_emulate.proofs.Common.{common_steps, ℕ, ◌*◌, ◌≤◌, arith}

-- a square of 2 or more is that of 2 or more
pub two_or_more : (n c : ℕ) → 2 ≤ n → n ≤ c * c → 2 ≤ c
two_or_more n c some enough = grind (arith, common_steps)
