-- Hexadecimal digits, piece by piece.
use Rattle.mesh_report.proofs.Common.{◌≡◌, ℕ, ◌+◌, List, [], ◌∷◌, ◌++◌, take, drop, refl, ap, ◌∙◌, slice_index, ◌/◌, ◌%◌, append-nil, encode_with, encode_lower, lower_digits}
use Rattle.std.proofs.Math.Seq.{take-add}

encode_with-append : (t xs ys : List ℕ) → encode_with t (xs ++ ys) ≡ encode_with t xs ++ encode_with t ys
unfolding encode_with
encode_with-append t [] ys = refl
encode_with-append t (x ∷ xs) ys = ap (λ (l : List ℕ). slice_index t (x / 16) ∷ slice_index t (x % 16) ∷ l) (encode_with-append t xs ys)

-- the digits of no octets
pub digits_none : (out octets : List ℕ) → out ≡ out ++ encode_lower (take 0 octets)
unfolding encode_with
digits_none out octets = rw (append-nil out) refl

-- the digits of a front, and then those of the next octets
pub digits_more : (octets : List ℕ) (at size : ℕ) → encode_lower (take (at + size) octets) ≡ encode_lower (take at octets) ++ encode_lower (take size (drop at octets))
digits_more octets at size = ap encode_lower (take-add at size octets) ∙ encode_with-append lower_digits (take at octets) (take size (drop at octets))
