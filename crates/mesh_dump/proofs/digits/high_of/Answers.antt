use Rattle.mesh_dump.proofs.Common.{◌≡◌, ◌<◌, ◌≤◌, ◌*◌, ℕ, Some, subst, sym, arith, slice_index, option_map, hex_digit_value, HIGH}
use Rattle.mesh_dump.proofs.Pairs.{high_is, high_most}
use Rattle.mesh_dump.proofs.digits.high_of.Goals as goal

pub returns-clause-value : goal.returns-clause-value
returns-clause-value c = subst (λ (n : ℕ). slice_index HIGH n < 256 → option_map (λ (value : ℕ). value * 16) (hex_digit_value c.args.octet) ≡ Some (slice_index HIGH n)) (sym c.from.ensures) (high_is c.args.octet (omega arith))

pub returns-clause-most : goal.returns-clause-most
returns-clause-most c = subst (λ (n : ℕ). slice_index HIGH n ≤ 4096) (sym c.from.ensures) (high_most c.args.octet (omega arith))
