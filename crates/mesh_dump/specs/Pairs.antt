-- Octets by pairs of hexadecimal digits.
use Rattle.std.specs.Prelude.{◌≡◌, ℕ, ◌+◌, ◌*◌, ◌<◌, ◌≤◌, List, length, take, Some, Ok, slice_index}
use Rattle.hex.specs.Hex.{hex_digit_value, decode_of}

-- an octet is that of two digits
pub record IsPair (high low octet : ℕ) : Type 0 where
  pub first : ℕ
  pub second : ℕ
  pub first_is : hex_digit_value high ≡ Some first
  pub second_is : hex_digit_value low ≡ Some second
  pub octet_is : octet ≡ first * 16 + second

-- so are those before a place
abbrev pub AreHexPairs : List ℕ → List ℕ → ℕ → Type 0
AreHexPairs text octets end = (k : ℕ) → k < end → IsPair (slice_index text (2 * k)) (slice_index text (2 * k + 1)) (slice_index octets k)

-- the text writes so many octets, which are the first of these
abbrev pub AreFirst : ℕ → List ℕ → List ℕ → Type 0
AreFirst count text octets = (count ≤ length octets) × (decode_of text ≡ Ok (take count octets))
