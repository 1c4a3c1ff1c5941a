-- What a TLV block is, and what its first fault is (RFC 5444, section 5.4), apart from how it is read.
-- Flags: 128 type extension, 64 single index, 32 multi index, 16 value, 8 length of 16 bits, 4 multivalue.
-- Reasons: 1 a field is cut off outside TLVs, 4 an end is passed, 5 flags, 6 an index, 7 a value in unequal parts.
use Rattle.std.specs.Prelude.{◌≡◌, ℕ, ◌+◌, ◌-◌, ◌%◌, ◌<◌, ◌≤◌, ◌⊎◌, List, [], ◌∷◌, ◌++◌, length, Option, Some, None, Bool, true, false, bit_and}
use Rattle.mesh_atoms.specs.Grammar.{SpellsShort}
use Rattle.mesh_atoms.specs.Reading.{has}
use Rattle.mesh_tlv.specs.Fields.{TlvFields, AddrTlvFields, indexed}
use Rattle.mesh_tlv.specs.Items.{SpellsItems, ItemsFault}

-- ---- the fields of a TLV

-- a type extension, where it is flagged; else it is 0
abbrev pub SpellsExtension : Bool → ℕ → List ℕ → Type 0
SpellsExtension true ext bytes = bytes ≡ ext ∷ []
SpellsExtension false ext bytes = (ext ≡ 0) × (bytes ≡ [])

-- the addresses that are covered, of so many: by a single index, by a multi index, or all without one
abbrev pub SpellsIndex : Bool → Bool → ℕ → ℕ → ℕ → List ℕ → Type 0
SpellsIndex true false count first last bytes = (first < count) × (last ≡ first) × (bytes ≡ first ∷ [])
SpellsIndex false true count first last bytes = (first ≤ last) × (last < count) × (bytes ≡ first ∷ last ∷ [])
SpellsIndex false false count first last bytes = (first ≡ 0) × (last ≡ count - 1) × (bytes ≡ [])
SpellsIndex true true count first last bytes = ⊥

-- a length of 16 bits, where it is flagged; else of 8
abbrev pub SpellsLength : Bool → ℕ → List ℕ → Type 0
SpellsLength true n bytes = SpellsShort n bytes
SpellsLength false n bytes = bytes ≡ n ∷ []

-- a value behind its length, where it is flagged; a length of 0 is that of a value
abbrev pub SpellsValue : Bool → Bool → Option (List ℕ) → List ℕ → Type 0
SpellsValue true wide (Some text) bytes = (len : List ℕ) × SpellsLength wide (length text) len × (bytes ≡ len ++ text)
SpellsValue false false None bytes = bytes ≡ []
SpellsValue true wide None bytes = ⊥
SpellsValue false wide (Some text) bytes = ⊥
SpellsValue false true None bytes = ⊥

-- with multivalue the number of covered addresses divides a value's length
abbrev pub Divides : Bool → ℕ → ℕ → ℕ → Type 0
Divides true first last n = n % (last + 1 - first) ≡ 0
Divides false first last n = Unit {0}

-- with multivalue there is a value, of equal parts, one for each covered address
abbrev pub HasEqualParts : Bool → ℕ → ℕ → Option (List ℕ) → Type 0
HasEqualParts multi first last (Some text) = Divides multi first last (length text)
HasEqualParts multi first last None = multi ≡ false

-- ---- TLVs and their blocks

-- a TLV of a block of `count` addresses, with none of the flags in `barred`
pub record SpellsTlvOf (barred count : ℕ) (tlv : AddrTlvFields) (bytes : List ℕ) : Type 0 where
  pub flags : ℕ
  pub ext : List ℕ
  pub index : List ℕ
  pub value : List ℕ
  pub not_barred : bit_and flags barred ≡ 0
  pub ext_is : SpellsExtension (has flags 128) tlv.ext ext
  pub index_is : SpellsIndex (has flags 64) (has flags 32) count tlv.first tlv.last index
  pub value_is : SpellsValue (has flags 16) (has flags 8) tlv.value value
  pub multi_is : tlv.multi ≡ has flags 4
  pub equal_parts : HasEqualParts (has flags 4) tlv.first tlv.last tlv.value
  pub whole : bytes ≡ tlv.kind ∷ (flags ∷ (ext ++ (index ++ value)))

-- an address TLV, which takes each flag
abbrev pub SpellsAddrTlv : ℕ → AddrTlvFields → List ℕ → Type 0
SpellsAddrTlv count = SpellsTlvOf 0 count

-- a packet or message TLV, which takes neither an index (64 and 32) nor multivalue (4)
abbrev pub SpellsTlv : TlvFields → List ℕ → Type 0
SpellsTlv tlv bytes = SpellsTlvOf 100 1 (indexed tlv) bytes

-- a length of 16 bits, and items that fill exactly so many octets
abbrev pub SpellsTlvs : {A : Type 0} → (A → List ℕ → Type 0) → List A → List ℕ → Type 0
SpellsTlvs Spells xs bytes = (len : List ℕ) × (text : List ℕ) × SpellsShort (length text) len × SpellsItems Spells xs text × (bytes ≡ len ++ text)

-- a block of packet or message TLVs
abbrev pub SpellsTlvBlock : List TlvFields → List ℕ → Type 0
SpellsTlvBlock = SpellsTlvs SpellsTlv

-- a block of address TLVs, behind a block of `count` addresses
abbrev pub SpellsAddrTlvBlock : ℕ → List AddrTlvFields → List ℕ → Type 0
SpellsAddrTlvBlock count = SpellsTlvs (SpellsAddrTlv count)

-- ---- first faults: how many octets on, and the reason

-- the rules that flags break
pub data IsBroken (barred flags : ℕ) : Type 0 where
  two_indexes : has flags 64 ≡ true → has flags 32 ≡ true → IsBroken barred flags
  wide_nothing : has flags 8 ≡ true → has flags 16 ≡ false → IsBroken barred flags
  multi_nothing : has flags 4 ≡ true → has flags 16 ≡ false → IsBroken barred flags
  not_taken : (bit_and flags barred ≡ 0 → ⊥) → IsBroken barred flags

-- a type and flags that break no rule, and the rest
pub record Opens (barred : ℕ) (bytes : List ℕ) (flags : ℕ) (rest : List ℕ) : Type 0 where
  pub kind : ℕ
  pub not_broken : IsBroken barred flags → ⊥
  pub parts : bytes ≡ kind ∷ (flags ∷ rest)

-- the same with an extension, where it is flagged
pub record Extends (barred : ℕ) (bytes : List ℕ) (flags : ℕ) (ext rest : List ℕ) : Type 0 where
  pub opens : Opens barred bytes flags (ext ++ rest)
  pub number : ℕ
  pub ext_is : SpellsExtension (has flags 128) number ext

-- the same with the indexes
pub record Indexes (barred count : ℕ) (bytes : List ℕ) (flags first last : ℕ) (head rest : List ℕ) : Type 0 where
  pub ext : List ℕ
  pub index : List ℕ
  pub extends : Extends barred bytes flags ext (index ++ rest)
  pub index_is : SpellsIndex (has flags 64) (has flags 32) count first last index
  pub head_is : head ≡ ext ++ index

-- what is left where a length field is cut off
abbrev pub IsCut : Bool → List ℕ → Type 0
IsCut true rest = length rest < 2
IsCut false rest = rest ≡ []

-- `bytes` are what is left of the block, with a TLV at their front. So many octets on stands its first field that breaks
-- a rule, and the reason is the least that this field breaks.
pub data TlvFault (barred count : ℕ) (bytes : List ℕ) : ℕ → ℕ → Type 0 where
  flags_cut : (kind : ℕ) → bytes ≡ kind ∷ [] → TlvFault barred count bytes 1 4
  flags_broken : (kind flags : ℕ) (rest : List ℕ) → bytes ≡ kind ∷ (flags ∷ rest) → IsBroken barred flags → TlvFault barred count bytes 1 5
  ext_cut : (flags : ℕ) → Opens barred bytes flags [] → has flags 128 ≡ true → TlvFault barred count bytes 2 4
  start_cut : (flags : ℕ) (ext : List ℕ) → Extends barred bytes flags ext [] → (has flags 64 ≡ true) ⊎ (has flags 32 ≡ true)
      → TlvFault barred count bytes (2 + length ext) 4
  start_high : (flags start : ℕ) (ext rest : List ℕ) → Extends barred bytes flags ext (start ∷ rest) → (has flags 64 ≡ true) ⊎ (has flags 32 ≡ true)
      → count ≤ start → TlvFault barred count bytes (2 + length ext) 6
  stop_cut : (flags start : ℕ) (ext : List ℕ) → Extends barred bytes flags ext (start ∷ []) → has flags 32 ≡ true → start < count
      → TlvFault barred count bytes (3 + length ext) 4
  stop_wrong : (flags start stop : ℕ) (ext rest : List ℕ) → Extends barred bytes flags ext (start ∷ (stop ∷ rest))
      → has flags 32 ≡ true → start < count → (stop < start) ⊎ (count ≤ stop) → TlvFault barred count bytes (3 + length ext) 6
  length_cut : (flags first last : ℕ) (head rest : List ℕ) → Indexes barred count bytes flags first last head rest → has flags 16 ≡ true
      → IsCut (has flags 8) rest → TlvFault barred count bytes (2 + length head) 4
  length_uneven : (flags first last n : ℕ) (head len rest : List ℕ) → Indexes barred count bytes flags first last head (len ++ rest)
      → has flags 16 ≡ true
      → SpellsLength (has flags 8) n len → (Divides (has flags 4) first last n → ⊥) → TlvFault barred count bytes (2 + length head) 7
  value_cut : (flags first last n : ℕ) (head len rest : List ℕ) → Indexes barred count bytes flags first last head (len ++ rest) → has flags 16 ≡ true
      → SpellsLength (has flags 8) n len → Divides (has flags 4) first last n → length rest < n
      → TlvFault barred count bytes (2 + length head + length len) 4

-- the same of a block at the front of what is left of its frame or message: its length field, or an item of it
pub data TlvsFault {A : Type 0} (Spells : A → List ℕ → Type 0) (Fault : List ℕ → ℕ → ℕ → Type 0) (bytes : List ℕ) : ℕ → ℕ → Type 0 where
  block_cut : length bytes < 2 → TlvsFault Spells Fault bytes 0 1
  block_long : (n : ℕ) (len rest : List ℕ) → SpellsShort n len → bytes ≡ len ++ rest → length rest < n → TlvsFault Spells Fault bytes 0 4
  in_block : (distance reason : ℕ) (len text rest : List ℕ) → SpellsShort (length text) len → ItemsFault Spells Fault text distance reason
      → bytes ≡ len ++ (text ++ rest) → TlvsFault Spells Fault bytes (2 + distance) reason

-- the first fault of a block of packet or message TLVs
abbrev pub TlvBlockFault : List ℕ → ℕ → ℕ → Type 0
TlvBlockFault = TlvsFault SpellsTlv (TlvFault 100 1)

-- the first fault of a block of address TLVs, behind a block of `count` addresses
abbrev pub AddrTlvBlockFault : ℕ → List ℕ → ℕ → ℕ → Type 0
AddrTlvBlockFault count = TlvsFault (SpellsAddrTlv count) (TlvFault 0 count)
