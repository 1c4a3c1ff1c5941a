use Rattle.mesh_emulate.proofs.Common.{◌≤◌, ◌<◌, ◌*◌, ℕ}
use Rattle.mesh_emulate.proofs.making.pairs.row_of.Given as goal

-- no lesser number has a square that is no less
abbrev pub invariant-loop-row : goal.invariant-loop-row
invariant-loop-row l = (d : ℕ) → d < l.row → l.routers ≤ d * d → ⊥
