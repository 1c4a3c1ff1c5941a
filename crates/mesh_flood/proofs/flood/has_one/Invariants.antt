use Rattle.mesh_flood.proofs.Common.{ℕ, ◌<◌, base_of}
use Rattle.mesh_flood.specs.Standing.{HasKey}
use Rattle.mesh_flood.proofs.flood.has_one.Given as goal

abbrev pub invariant-loop-set : goal.invariant-loop-set
invariant-loop-set g l = (k : ℕ) → k < l.set-index → HasKey (base_of l.sets k) l.key → ⊥
