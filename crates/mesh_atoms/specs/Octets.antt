-- Numbers of 16 bits and IPv4 addresses as octets, the highest octet first.
use Rattle.std.specs.Prelude.{ℕ, ◌+◌, ◌*◌, ◌/◌, ◌%◌, List, [], ◌∷◌, slice_index}

-- the number of 16 bits that the first two octets are
abbrev pub short_in : List ℕ → ℕ
short_in octets = 256 * slice_index octets 0 + slice_index octets 1

-- the octets of a number of 16 bits
abbrev pub short_octets : ℕ → List ℕ
short_octets n = n / 256 ∷ n % 256 ∷ []

-- the address that the first four octets are
abbrev pub address_in : List ℕ → ℕ
address_in octets = 16777216 * slice_index octets 0 + 65536 * slice_index octets 1 + 256 * slice_index octets 2 + slice_index octets 3

-- the octets of an address
abbrev pub address_octets : ℕ → List ℕ
address_octets n = n / 16777216 ∷ n / 65536 % 256 ∷ n / 256 % 256 ∷ n % 256 ∷ []
