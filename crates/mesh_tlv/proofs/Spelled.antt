-- The least form is a spelling.
use Rattle.mesh_tlv.proofs.Common.{◌≡◌, ℕ, ◌+◌, ◌/◌, ◌%◌, ◌<◌, ◌≤◌, Bool, true, false, not, ◌&&◌, eqb, ltb, bit_and, List, [], ◌∷◌, ◌++◌, length, Option, Some, None, refl, arith, All, common_steps, flat_map, and_zero_r, All-head, All-tail, All-weaker, SpellsShort, has, TlvFields, AddrTlvFields, indexed, SpellsItems, SpellsExtension, SpellsIndex, SpellsLength, SpellsValue, HasEqualParts, SpellsTlvOf, SpellsTlv, SpellsAddrTlv, SpellsTlvs, SpellsTlvBlock, SpellsAddrTlvBlock, IsFit, flag, octet_if, has_value, is_wide, least_flags, least_head, least_short, least_length, least_value, least_addr_tlv, least_tlv, least_block}
use Rattle.std.proofs.lemmas.List.Concat.{flat_map-cons}
use Rattle.mesh_tlv.proofs.Trying.{both, both_is, same, same_is}

-- ---- each flag is told from the sum of the flags, by trying all sums

abbrev flags_of : Bool → Bool → Bool → Bool → Bool → Bool → ℕ
flags_of a b c d e f = flag a 128 + flag b 64 + flag c 32 + flag d 16 + flag e 8 + flag f 4

abbrev six : (Bool → Bool → Bool → Bool → Bool → Bool → Bool) → Bool
six t = both (λ a. both (λ b. both (λ c. both (λ d. both (λ e. both (λ f. t a b c d e f))))))

six_is : (t : Bool → Bool → Bool → Bool → Bool → Bool → Bool) → six t ≡ true → (a b c d e f : Bool) → t a b c d e f ≡ true
six_is t h a b c d e f =
    both_is (λ f. t a b c d e f) (both_is (λ e. both (λ f. t a b c d e f)) (both_is (λ d. both (λ e. both (λ f. t a b c d e f))) (both_is (λ c. both (λ d. both (λ e. both (λ f. t a b c d e f)))) (both_is (λ b. both (λ c. both (λ d. both (λ e. both (λ f. t a b c d e f))))) (both_is (λ a. both (λ b. both (λ c. both (λ d. both (λ e. both (λ f. t a b c d e f)))))) h a) b) c) d) e) f

tells_128 : (a b c d e f : Bool) → has (flags_of a b c d e f) 128 ≡ a
tells_128 a b c d e f = same_is _ _ (six_is (λ a b c d e f. same (has (flags_of a b c d e f) 128) a) refl a b c d e f)

tells_64 : (a b c d e f : Bool) → has (flags_of a b c d e f) 64 ≡ b
tells_64 a b c d e f = same_is _ _ (six_is (λ a b c d e f. same (has (flags_of a b c d e f) 64) b) refl a b c d e f)

tells_32 : (a b c d e f : Bool) → has (flags_of a b c d e f) 32 ≡ c
tells_32 a b c d e f = same_is _ _ (six_is (λ a b c d e f. same (has (flags_of a b c d e f) 32) c) refl a b c d e f)

tells_16 : (a b c d e f : Bool) → has (flags_of a b c d e f) 16 ≡ d
tells_16 a b c d e f = same_is _ _ (six_is (λ a b c d e f. same (has (flags_of a b c d e f) 16) d) refl a b c d e f)

tells_8 : (a b c d e f : Bool) → has (flags_of a b c d e f) 8 ≡ e
tells_8 a b c d e f = same_is _ _ (six_is (λ a b c d e f. same (has (flags_of a b c d e f) 8) e) refl a b c d e f)

tells_4 : (a b c d e f : Bool) → has (flags_of a b c d e f) 4 ≡ f
tells_4 a b c d e f = same_is _ _ (six_is (λ a b c d e f. same (has (flags_of a b c d e f) 4) f) refl a b c d e f)

none_barred : (a d e : Bool) → bit_and (flags_of a false false d e false) 100 ≡ 0
none_barred true true true = refl
none_barred true true false = refl
none_barred true false true = refl
none_barred true false false = refl
none_barred false true true = refl
none_barred false true false = refl
none_barred false false true = refl
none_barred false false false = refl

-- ---- the parts of a TLV

ext_spelled : (ext : ℕ) (b : Bool) → eqb ext 0 ≡ b → SpellsExtension (not b) ext (octet_if (not b) ext)
ext_spelled ext b h = grind (arith, common_steps)

index_spelled : (count first last : ℕ) → first ≤ last → last < count → (a b c : Bool) → eqb first 0 ≡ a → eqb (last + 1) count ≡ b → eqb first last ≡ c → SpellsIndex (not (a && b) && c) (not (a && b) && not c) count first last (octet_if (not (a && b)) first ++ octet_if (not (a && b) && not c) last)
index_spelled count first last le lt a b c p q r = grind (arith, common_steps)

pub short_spelled : (n : ℕ) → SpellsShort n (least_short n)
short_spelled n = (n / 256, n % 256, omega arith, refl)

length_spelled : (n : ℕ) (b : Bool) → ltb 255 n ≡ b → SpellsLength b n (least_length n)
length_spelled n b h = grind (arith, common_steps, short_spelled)

value_spelled : (v : Option (List ℕ)) → SpellsValue (has_value v) (is_wide v) v (least_value v)
value_spelled v = grind (arith, common_steps, length_spelled)

-- ---- TLVs and blocks

tlv_of_spelled : (barred count : ℕ) (tlv : AddrTlvFields) → IsFit count tlv → bit_and (least_flags count tlv) barred ≡ 0 → SpellsTlvOf barred count tlv (least_addr_tlv count tlv)
unfolding least_head least_flags
tlv_of_spelled barred count tlv fit free = grind (arith, common_steps, tells_128, ext_spelled, tells_64, tells_32, index_spelled, tells_16, tells_8, value_spelled, tells_4)

pub addr_tlv_spelled : (count : ℕ) (tlv : AddrTlvFields) → IsFit count tlv → SpellsTlvOf 0 count tlv (least_addr_tlv count tlv)
addr_tlv_spelled count tlv fit = tlv_of_spelled 0 count tlv fit (and_zero_r (least_flags count tlv))

pub tlv_spelled : (tlv : TlvFields) → SpellsTlv tlv (least_tlv tlv)
unfolding least_flags
tlv_spelled tlv = tlv_of_spelled 100 1 (indexed tlv) (omega arith, omega arith, parted tlv.value) (none_barred (not (eqb tlv.ext 0)) (has_value tlv.value) (is_wide tlv.value)) where
  parted : (v : Option (List ℕ)) → HasEqualParts false 0 0 v
  parted (Some text) = tt
  parted None = refl

pub items_spelled : {A : Type 0} (Spells : A → List ℕ → Type 0) (least : A → List ℕ) (xs : List A) → All (λ x. Spells x (least x)) xs → SpellsItems Spells xs (flat_map least xs)
items_spelled Spells least [] h = refl
items_spelled Spells least (x ∷ xs) h = (least x, flat_map least xs, All-head (λ y. Spells y (least y)) x xs h, items_spelled Spells least xs (All-tail (λ y. Spells y (least y)) x xs h), flat_map-cons least x xs)

pub block_spelled : {A : Type 0} (Spells : A → List ℕ → Type 0) (least : A → List ℕ) (xs : List A) → All (λ x. Spells x (least x)) xs → SpellsTlvs Spells xs (least_block least xs)
block_spelled Spells least xs h = (least_short (length (flat_map least xs)), flat_map least xs, short_spelled (length (flat_map least xs)), items_spelled Spells least xs h, refl)

pub tlv_block_spelled : (tlvs : List TlvFields) → SpellsTlvBlock tlvs (least_block least_tlv tlvs)
tlv_block_spelled tlvs = block_spelled SpellsTlv least_tlv tlvs (λ k d lt. tlv_spelled _)

pub addr_tlv_block_spelled : (count : ℕ) (tlvs : List AddrTlvFields) → All (IsFit count) tlvs → SpellsAddrTlvBlock count tlvs (least_block (least_addr_tlv count) tlvs)
addr_tlv_block_spelled count tlvs fit = block_spelled (SpellsAddrTlv count) (least_addr_tlv count) tlvs (All-weaker (IsFit count) (λ tlv. SpellsAddrTlv count tlv (least_addr_tlv count tlv)) (λ tlv h. addr_tlv_spelled count tlv h) tlvs fit)
