-- A mantissa of 512 reaches each cost in range at exponent 15.
use Rattle.mesh_atoms.proofs.Common.{inl, inr, arith}
use Rattle.mesh_atoms.proofs.codes.metric.Metric.at_least.Goals as goal

pub invariant_of-result : goal.invariant_of-result
invariant_of-result c = record {
  in_range = elim (c.rounded_up-exponent.ensures.least 15 512 (omega arith) (omega arith) (omega (arith, c.from.ensures))) [
    | inl lt ↦ omega arith
    | inr both ↦ omega arith
  ];
}
