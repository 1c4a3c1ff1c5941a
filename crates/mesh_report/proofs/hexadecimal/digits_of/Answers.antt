use Rattle.mesh_report.proofs.Common.{◌≡◌, ℕ, ◌/◌, ◌%◌, subst, sym, arith, slice_index, lower_digits, DIGITS}
use Rattle.mesh_report.proofs.LaidHex.{first_is, second_is}
use Rattle.mesh_report.proofs.hexadecimal.digits_of.Goals as goal

pub returns-clause-first : goal.returns-clause-first
returns-clause-first c = subst (λ (n : ℕ). slice_index DIGITS n % 256 ≡ slice_index lower_digits (c.args.octet / 16)) (sym c.from.ensures) (first_is c.args.octet (omega arith))

pub returns-clause-second : goal.returns-clause-second
returns-clause-second c = subst (λ (n : ℕ). slice_index DIGITS n / 256 ≡ slice_index lower_digits (c.args.octet % 16)) (sym c.from.ensures) (second_is c.args.octet (omega arith))
