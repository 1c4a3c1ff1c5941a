-- What an address block is (RFC 5444, section 5.3), apart from how it is read.
use Rattle.std.specs.Prelude.{◌≡◌, ℕ, ◌+◌, ◌*◌, ◌-◌, ◌<◌, ◌≤◌, List, [], ◌∷◌, ◌++◌, length, map, take, replicate, Bool, true, false, cond, ◌&&◌}
use Rattle.mesh_atoms.specs.Reading.{has}
use Rattle.mesh_addr.specs.declared.records.RawAddr.{RawAddr}

-- the octets of an address, with zeros after them
abbrev pub padded : List ℕ → List ℕ
padded octets = octets ++ replicate (16 - length octets) 0

-- the octets that all addresses begin with, after their number
abbrev pub SpellsHead : Bool → List ℕ → List ℕ → Type 0
SpellsHead true head text = text ≡ length head ∷ head
SpellsHead false head text = (head ≡ []) × (text ≡ [])

-- the octets that all addresses end in: a full tail after its number, or the number of zeros
abbrev pub SpellsTail : Bool → Bool → List ℕ → List ℕ → Type 0
SpellsTail true false tail text = text ≡ length tail ∷ tail
SpellsTail false true tail text = (tail ≡ replicate (length tail) 0) × (text ≡ length tail ∷ [])
SpellsTail false false tail text = (tail ≡ []) × (text ≡ [])
SpellsTail true true tail text = ⊥

-- the octets between head and tail, address by address
abbrev pub SpellsMids : List ℕ → List ℕ → ℕ → List RawAddr → List ℕ → Type 0
SpellsMids head tail size [] text = text ≡ []
SpellsMids head tail size (a ∷ addrs) text =
    (mid : List ℕ) × (rest : List ℕ) × (length mid ≡ size) × (a.octets ≡ padded (head ++ (mid ++ tail))) × SpellsMids head tail size addrs rest
    × (text ≡ mid ++ rest)

-- none is above the greatest
abbrev pub AreAtMost : ℕ → List ℕ → Type 0
AreAtMost most [] = Unit {0}
AreAtMost most (p ∷ ps) = (p ≤ most) × AreAtMost most ps

-- all are the same
abbrev pub AreAll : ℕ → List ℕ → Type 0
AreAll p ps = ps ≡ replicate (length ps) p

-- the prefix lengths: none where each is the greatest, one for all, or one for each
abbrev pub SpellsPrefixes : Bool → Bool → ℕ → List ℕ → List ℕ → Type 0
SpellsPrefixes false false most ps text = AreAll most ps × (text ≡ [])
SpellsPrefixes true false most ps text = (p : ℕ) × (p ≤ most) × AreAll p ps × (text ≡ p ∷ [])
SpellsPrefixes false true most ps text = AreAtMost most ps × (text ≡ ps)
SpellsPrefixes true true most ps text = ⊥

-- the prefix lengths of addresses
abbrev pub prefixes : List RawAddr → List ℕ
prefixes = map (λ (a : RawAddr). a.prefix)

-- A block of these addresses, of so many octets each, is spelled so.
pub record SpellsBlock (width : ℕ) (addrs : List RawAddr) (bytes : List ℕ) : Type 0 where
  pub flags : ℕ
  pub head : List ℕ
  pub tail : List ℕ
  pub head_text : List ℕ
  pub tail_text : List ℕ
  pub mids_text : List ℕ
  pub prefixes_text : List ℕ
  pub some : 0 < length addrs
  pub fits : length head + length tail ≤ width
  pub head_is : SpellsHead (has flags 128) head head_text
  pub tail_is : SpellsTail (has flags 64) (has flags 32) tail tail_text
  pub mids_is : SpellsMids head tail (width - (length head + length tail)) addrs mids_text
  pub prefixes_is : SpellsPrefixes (has flags 16) (has flags 8) (8 * width) (prefixes addrs) prefixes_text
  pub whole : bytes ≡ length addrs ∷ (flags ∷ (head_text ++ (tail_text ++ (mids_text ++ prefixes_text))))

-- ---- faults, at places counted from where the block or its part begins

-- a number of octets up to `room`, and the octets
pub data CountedFault (room : ℕ) (s : List ℕ) : ℕ → ℕ → Type 0 where
  no_number : s ≡ [] → CountedFault room s 0 1
  number_above : (n : ℕ) (rest : List ℕ) → s ≡ n ∷ rest → room < n → CountedFault room s 0 10
  cut : (n : ℕ) (rest : List ℕ) → s ≡ n ∷ rest → n ≤ room → length rest < n → CountedFault room s 1 1

-- a number of zeros up to `room`
pub data ZerosFault (room : ℕ) (s : List ℕ) : ℕ → Type 0 where
  no_number : s ≡ [] → ZerosFault room s 1
  number_above : (n : ℕ) (rest : List ℕ) → s ≡ n ∷ rest → room < n → ZerosFault room s 10

-- one of so many prefix lengths, after sound ones
pub data PrefixFault (most : ℕ) (s : List ℕ) : ℕ → ℕ → Type 0 where
  no_prefix : AreAtMost most s → PrefixFault most s (length s) 1
  prefix_above : (before : List ℕ) (p : ℕ) (rest : List ℕ) → s ≡ before ++ p ∷ rest → AreAtMost most before → most < p
      → PrefixFault most s (length before) 11

-- a number of addresses and flags that are sound
pub record BeginsBlock (s : List ℕ) (count flags : ℕ) (rest : List ℕ) : Type 0 where
  pub some : 0 < count
  pub tails : has flags 64 && has flags 32 ≡ false
  pub prefixes : has flags 16 && has flags 8 ≡ false
  pub parts : s ≡ count ∷ (flags ∷ rest)

-- these, and a head and a tail
pub record Shaped (width : ℕ) (s : List ℕ) (count flags : ℕ) (head tail text rest : List ℕ) : Type 0 where
  pub head_text : List ℕ
  pub tail_text : List ℕ
  pub begins : BeginsBlock s count flags (text ++ rest)
  pub fits : length head + length tail ≤ width
  pub head_is : SpellsHead (has flags 128) head head_text
  pub tail_is : SpellsTail (has flags 64) (has flags 32) tail tail_text
  pub parts : text ≡ head_text ++ tail_text

-- how many prefix lengths are written
abbrev pub prefix_count : ℕ → ℕ → ℕ
prefix_count flags count = cond (has flags 16) 1 (cond (has flags 8) count 0)

-- At this place stands the first field that breaks a rule, and this is the least rule that it breaks.
pub data BlockFault (width : ℕ) (s : List ℕ) : ℕ → ℕ → Type 0 where
  no_count : s ≡ [] → BlockFault width s 0 1
  no_addresses : (rest : List ℕ) → s ≡ 0 ∷ rest → BlockFault width s 0 8
  no_flags : (count : ℕ) → s ≡ count ∷ [] → 0 < count → BlockFault width s 1 1
  two_tails : (count flags : ℕ) (rest : List ℕ) → s ≡ count ∷ (flags ∷ rest) → 0 < count → has flags 64 && has flags 32 ≡ true
      → BlockFault width s 1 9
  two_prefixes : (count flags : ℕ) (rest : List ℕ) → s ≡ count ∷ (flags ∷ rest) → 0 < count → has flags 16 && has flags 8 ≡ true
      → BlockFault width s 1 9
  head : (count flags place reason : ℕ) (rest : List ℕ) → BeginsBlock s count flags rest → has flags 128 ≡ true → CountedFault width rest place reason
      → BlockFault width s (2 + place) reason
  full_tail : (count flags place reason : ℕ) (head text rest : List ℕ) → BeginsBlock s count flags (text ++ rest) → length head ≤ width
      → SpellsHead (has flags 128) head text → has flags 64 ≡ true → CountedFault (width - length head) rest place reason
      → BlockFault width s (2 + length text + place) reason
  zero_tail : (count flags reason : ℕ) (head text rest : List ℕ) → BeginsBlock s count flags (text ++ rest) → length head ≤ width
      → SpellsHead (has flags 128) head text → has flags 32 ≡ true → ZerosFault (width - length head) rest reason
      → BlockFault width s (2 + length text) reason
  middle : (count flags i : ℕ) (head tail text rest : List ℕ) → Shaped width s count flags head tail text rest → i < count
      → i * (width - (length head + length tail)) ≤ length rest → length rest < (i + 1) * (width - (length head + length tail))
      → BlockFault width s (2 + length text + i * (width - (length head + length tail))) 1
  prefix : (count flags place reason : ℕ) (head tail text mids rest : List ℕ) → Shaped width s count flags head tail text (mids ++ rest)
      → length mids ≡ count * (width - (length head + length tail)) → place < prefix_count flags count → PrefixFault (8 * width) rest place reason
      → BlockFault width s (2 + length text + length mids + place) reason

-- addresses with zeros after their octets, and prefix lengths that fit
abbrev pub AreRaw : ℕ → List RawAddr → Type 0
AreRaw width [] = Unit {0}
AreRaw width (a ∷ addrs) = (a.octets ≡ padded (take width a.octets)) × (a.prefix ≤ 8 * width) × AreRaw width addrs

-- A block that has a spelling: 1 to 255 addresses of 1 to 16 octets each.
pub record IsWritable (width : ℕ) (addrs : List RawAddr) : Type 0 where
  pub some : 0 < length addrs
  pub counted : length addrs ≤ 255
  pub wide : 0 < width
  pub narrow : width ≤ 16
  pub raw : AreRaw width addrs
