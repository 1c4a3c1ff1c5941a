-- Names, numbers, addresses, networks and endpoints as octets of text.
use Rattle.std.specs.Prelude.{ℕ, ◌+◌, ◌-◌, ◌*◌, ◌%◌, ◌^◌, List, [], ◌∷◌, length, take, slice_range, position, Option, Some, None, Bool, true, false, not, nat_le, nat_lt, ◌==◌, ◌&&◌, if◌then◌else◌}
use Rattle.std.specs.List.{list_all}
use Rattle.mesh_atoms.specs.declared.addr.Addr4.{Addr4}
use Rattle.mesh_atoms.specs.Settings.{is_name_octet}

-- one after the other, where each gives a value
infixl 10 ◌>>=◌
abbrev pub ◌>>=◌ : {A B : Type 0} → Option A → (A → Option B) → Option B
(Some x) >>= f = f x
None >>= f = None

-- the value, where the test holds
abbrev pub only_if : {A : Type 0} → Bool → A → Option A
only_if b x = if b then Some x else None

-- a name: 1 to 16 lower case letters and digits
abbrev pub is_name : List ℕ → Bool
is_name s = nat_le 1 (length s) && (nat_le (length s) 16 && list_all is_name_octet s)

-- the octets, where they are a name
abbrev pub name_of : List ℕ → Option (List ℕ)
name_of s = only_if (is_name s) s

-- an octet from `0` to `9`
abbrev pub is_digit : ℕ → Bool
is_digit c = nat_le 48 c && nat_le c 57

-- decimal digits read from the front, where the number stays at most `most`
abbrev pub digits_of : ℕ → ℕ → List ℕ → Option ℕ
digits_of most n [] = Some n
digits_of most n (c ∷ cs) = if is_digit c && nat_le (10 * n + (c - 48)) most then digits_of most (10 * n + (c - 48)) cs else None

-- a number has a digit, and no needless zero in front
abbrev pub begins_right : List ℕ → Bool
begins_right [] = false
begins_right (c ∷ []) = true
begins_right (c ∷ d ∷ cs) = not (c == 48)

-- a decimal number up to `most`
abbrev pub number_of : ℕ → List ℕ → Option ℕ
number_of most s = if begins_right s then digits_of most 0 s else None

-- what stands before and behind the first such octet
abbrev pub cut_at : List ℕ → Option ℕ → Option (List ℕ × List ℕ)
cut_at s None = None
cut_at s (Some i) = Some (take i s, slice_range s (i + 1) (length s))

-- the same for the first octet that is the mark; nothing where there is none
abbrev pub cut : ℕ → List ℕ → Option (List ℕ × List ℕ)
cut mark s = cut_at s (position (λ octet. octet == mark) s)

-- four numbers up to 255 with dots between, the first highest
abbrev pub dotted_of : List ℕ → Option ℕ
dotted_of s =
    cut 46 s >>= λ a. cut 46 a.1 >>= λ b. cut 46 b.1 >>= λ c.
    number_of 255 a.0 >>= λ i. number_of 255 b.0 >>= λ j. number_of 255 c.0 >>= λ k. number_of 255 c.1 >>= λ l.
    Some (((i * 256 + j) * 256 + k) * 256 + l)

-- an address, which isn't 0.0.0.0
abbrev pub address_of : List ℕ → Option Addr4
address_of s = dotted_of s >>= λ n. only_if (nat_lt 0 n) (record { 0 = n })

-- an address, a slash and a prefix up to 32, with zero bits after it
abbrev pub net_of : List ℕ → Option (Addr4 × ℕ)
net_of s =
    cut 47 s >>= λ a. dotted_of a.0 >>= λ n. number_of 32 a.1 >>= λ prefix.
    only_if (n % 2 ^ (32 - prefix) == 0) (record { 0 = n }, prefix)

-- an address, a colon and a port from 1 to 65535
abbrev pub endpoint_of : List ℕ → Option (Addr4 × ℕ)
endpoint_of s =
    cut 58 s >>= λ a. address_of a.0 >>= λ addr. number_of 65535 a.1 >>= λ port. only_if (nat_lt 0 port) (addr, port)

-- a router's name, a dot and an interface's name
abbrev pub place_of : List ℕ → Option (List ℕ × List ℕ)
place_of s = cut 46 s >>= λ a. name_of a.0 >>= λ router. name_of a.1 >>= λ iface. Some (router, iface)
