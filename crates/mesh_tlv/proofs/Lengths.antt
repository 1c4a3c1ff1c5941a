-- How long the items of a list are written.
use Rattle.mesh_tlv.proofs.Common.{◌≡◌, ℕ, ◌+◌, ◌<◌, ◌≤◌, ◌∙◌, sym, List, length, map, take, get_or, Option, None, refl, arith, common_steps, flat_map, lt-ltb, length-append, TlvFields, AddrTlvFields, fields, indexed, length_within, least_value, least_head, least_addr_tlv, least_tlv, IsLong, HasLongValue, AreTooLong}
use Rattle.std.proofs.lemmas.List.Folds.{length-flat_map-take, flat_map-map}
use Rattle.mesh_tlv.specs.declared.tlv.Tlv.{Tlv}

module _ {A B : Type 0} (view : A → B) (least : B → List ℕ) (xs : List A) (i : ℕ) (d : A) where
  item_fits : i < length xs → length (flat_map least (map view (take i xs))) + length (least (view (get_or xs i d))) ≤ length (flat_map least (map view xs))
  item_fits lt = rw (flat_map-map least view (take i xs), flat_map-map least view xs) (length-flat_map-take (λ x. least (view x)) xs i d lt)

  pub item_within : (most : ℕ) → i < length xs → length (flat_map least (map view xs)) ≤ most → length (least (view (get_or xs i d))) ≤ most
  item_within most lt le = omega (arith, item_fits lt)

  pub too_long : (total len : ℕ) → i < length xs → total ≡ length (flat_map least (map view (take i xs))) → len ≡ length (least (view (get_or xs i d))) → 65535 < total + len → length_within (length (flat_map least (map view xs))) ≡ None
  too_long total len lt sum is more = rw (lt-ltb 65535 (length (flat_map least (map view xs))) (omega (arith, item_fits lt))) refl

-- ---- a long value makes its TLV long, and a long TLV its block

value_longer : (v : Option (List ℕ)) → HasLongValue v → IsLong (least_value v)
value_longer v h = grind (arith, common_steps)

pub addr_tlv_longer : (count : ℕ) (tlv : AddrTlvFields) → HasLongValue tlv.value → IsLong (least_addr_tlv count tlv)
addr_tlv_longer count tlv h = omega (arith, value_longer tlv.value h, length-append (least_head count tlv) (least_value tlv.value))

pub tlv_longer : (tlv : TlvFields) → HasLongValue tlv.value → IsLong (least_tlv tlv)
tlv_longer tlv h = addr_tlv_longer 1 (indexed tlv) h

pub block_longer : {A : Type 0} (least : A → List ℕ) (value : A → Option (List ℕ)) → ((tlv : A) → HasLongValue (value tlv) → IsLong (least tlv)) → (tlvs : List A) → AreTooLong least value tlvs → IsLong (flat_map least tlvs)
block_longer least value longer tlvs h4 = grind (arith, common_steps, length-flat_map-take)

-- packet or message TLVs, written as those of a block of one address
pub written_indexed : (tlvs : List Tlv) → flat_map (least_addr_tlv 1) (map (λ tlv. indexed (fields tlv)) tlvs) ≡ flat_map least_tlv (map fields tlvs)
written_indexed tlvs = flat_map-map (least_addr_tlv 1) (λ (tlv : Tlv). indexed (fields tlv)) tlvs ∙ sym (flat_map-map least_tlv fields tlvs)
