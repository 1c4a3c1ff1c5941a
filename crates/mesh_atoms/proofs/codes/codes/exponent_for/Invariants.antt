use Rattle.mesh_atoms.proofs.Common.{ℕ, ◌*◌, ◌^◌, ◌<◌}
use Rattle.mesh_atoms.proofs.codes.codes.exponent_for.Given as goal

abbrev pub invariant-loop-exponent : goal.invariant-loop-exponent
invariant-loop-exponent l = (k : ℕ) → k < l.exponent → l.top * 2 ^ k < l.value
