use Rattle.mesh_flood.proofs.Common.{ℕ, ◌<◌, IsTrue, base_of, is_full}
use Rattle.mesh_flood.proofs.flood.has_full.Given as goal

abbrev pub invariant-loop-set : goal.invariant-loop-set
invariant-loop-set g l = (k : ℕ) → k < l.set-index → IsTrue (is_full (base_of l.sets k)) → ⊥
