use Rattle.mesh_dump.proofs.Common.{◌≡◌, ◌<◌, ◌≤◌, ℕ, Some, subst, sym, arith, slice_index, hex_digit_value, LOW}
use Rattle.mesh_dump.proofs.Pairs.{low_is, low_most}
use Rattle.mesh_dump.proofs.digits.low_of.Goals as goal

pub returns-clause-value : goal.returns-clause-value
returns-clause-value c = subst (λ (n : ℕ). slice_index LOW n < 256 → hex_digit_value c.args.octet ≡ Some (slice_index LOW n)) (sym c.from.ensures) (low_is c.args.octet (omega arith))

pub returns-clause-most : goal.returns-clause-most
returns-clause-most c = subst (λ (n : ℕ). slice_index LOW n ≤ 256) (sym c.from.ensures) (low_most c.args.octet (omega arith))
