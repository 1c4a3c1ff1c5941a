-- The least form, in which TLVs are written: no extension that is 0, the fewest indexes, the shorter length.
use Rattle.std.specs.Prelude.{◌≡◌, ℕ, ◌+◌, ◌/◌, ◌%◌, ◌<◌, ◌≤◌, ◌⊎◌, List, [], ◌∷◌, ◌++◌, length, Option, Some, None, Bool, true, false, not, ◌&&◌, nat_lt, ◌==◌, if◌then◌else◌}
use Rattle.std.specs.List.{flat_map, Any}
use Rattle.mesh_tlv.specs.Fields.{TlvFields, AddrTlvFields, indexed}
use Rattle.mesh_tlv.specs.Grammar.{HasEqualParts}

-- an address TLV that a block of `count` addresses can have
abbrev pub IsFit : ℕ → AddrTlvFields → Type 0
IsFit count tlv = (tlv.first ≤ tlv.last) × (tlv.last < count) × HasEqualParts tlv.multi tlv.first tlv.last tlv.value

-- the bit of a flag, where it is set
abbrev pub flag : Bool → ℕ → ℕ
flag set bit = if set then bit else 0

-- an octet, where it is written
abbrev pub octet_if : Bool → ℕ → List ℕ
octet_if set octet = if set then octet ∷ [] else []

-- whether all addresses are covered, so that no index is written
abbrev pub covers_all : ℕ → ℕ → ℕ → Bool
covers_all count first last = (first == 0) && (last + 1 == count)

-- whether a single index is written
abbrev pub is_single : ℕ → ℕ → ℕ → Bool
is_single count first last = not (covers_all count first last) && (first == last)

-- whether a multi index is written
abbrev pub is_several : ℕ → ℕ → ℕ → Bool
is_several count first last = not (covers_all count first last) && not (first == last)

-- whether there is a value
abbrev pub has_value : Option (List ℕ) → Bool
has_value None = false
has_value (Some text) = true

-- whether a value's length is written with 16 bits
abbrev pub is_wide : Option (List ℕ) → Bool
is_wide None = false
is_wide (Some text) = nat_lt 255 (length text)

-- the flags
unfoldable pub least_flags : ℕ → AddrTlvFields → ℕ
least_flags count tlv =
    flag (not (tlv.ext == 0)) 128 + flag (is_single count tlv.first tlv.last) 64 + flag (is_several count tlv.first tlv.last) 32
    + flag (has_value tlv.value) 16 + flag (is_wide tlv.value) 8 + flag tlv.multi 4

-- the indexes
abbrev pub least_index : ℕ → ℕ → ℕ → List ℕ
least_index count first last =
    octet_if (not (covers_all count first last)) first ++ octet_if (is_several count first last) last

-- what stands before the value
unfoldable pub least_head : ℕ → AddrTlvFields → List ℕ
least_head count tlv =
    tlv.kind ∷ (least_flags count tlv ∷ (octet_if (not (tlv.ext == 0)) tlv.ext ++ least_index count tlv.first tlv.last))

-- a number of 16 bits
abbrev pub least_short : ℕ → List ℕ
least_short n = n / 256 ∷ (n % 256 ∷ [])

-- a value's length
abbrev pub least_length : ℕ → List ℕ
least_length n = if nat_lt 255 n then least_short n else n ∷ []

-- a value behind its length
abbrev pub least_value : Option (List ℕ) → List ℕ
least_value None = []
least_value (Some text) = least_length (length text) ++ text

-- an address TLV, of a block of `count` addresses
abbrev pub least_addr_tlv : ℕ → AddrTlvFields → List ℕ
least_addr_tlv count tlv = least_head count tlv ++ least_value tlv.value

-- a packet or message TLV
abbrev pub least_tlv : TlvFields → List ℕ
least_tlv tlv = least_addr_tlv 1 (indexed tlv)

-- a block: the length of its TLVs, and the TLVs
abbrev pub least_block : {A : Type 0} → (A → List ℕ) → List A → List ℕ
least_block least tlvs = least_short (length (flat_map least tlvs)) ++ flat_map least tlvs

-- more octets than a length of 16 bits can say
abbrev pub IsLong : List ℕ → Type 0
IsLong bytes = 65535 < length bytes

-- a value that is so long
abbrev pub HasLongValue : Option (List ℕ) → Type 0
HasLongValue None = ⊥
HasLongValue (Some text) = IsLong text

-- a block whose TLVs are so long together, or one value of them alone
abbrev pub AreTooLong : {A : Type 0} → (A → List ℕ) → (A → Option (List ℕ)) → List A → Type 0
AreTooLong least value tlvs = IsLong (flat_map least tlvs) ⊎ Any (λ tlv. HasLongValue (value tlv)) tlvs

-- a length that a block can have
abbrev pub length_within : ℕ → Option ℕ
length_within n = if nat_lt 65535 n then None else Some n

-- the old octets stand at the front of the new
pub record Grows (old new : List ℕ) : Type 0 where
  pub more : List ℕ
  pub parts : new ≡ old ++ more
