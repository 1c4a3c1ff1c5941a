-- Octets and their hexadecimal digits, by place.
use Rattle.std.specs.Prelude.{◌≡◌, ℕ, ◌+◌, ◌*◌, ◌/◌, ◌%◌, ◌<◌, List, slice_index}
use Rattle.hex.specs.Hex.{lower_digits}

-- the digits of an octet
abbrev pub HasDigits : ℕ → ℕ → ℕ → Type 0
HasDigits octet first second = (first ≡ slice_index lower_digits (octet / 16)) × (second ≡ slice_index lower_digits (octet % 16))

-- the digits of the octets before a place stand in a text
abbrev pub AreDigits : List ℕ → List ℕ → ℕ → Type 0
AreDigits octets text end = (k : ℕ) → k < end → HasDigits (slice_index octets k) (slice_index text (2 * k)) (slice_index text (2 * k + 1))
