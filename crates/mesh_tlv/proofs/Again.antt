-- What is spelled so is read, whatever follows, and a first fault is the one that is answered.
use Rattle.mesh_tlv.proofs.Common.{◌≡◌, ℕ, ◌+◌, ◌-◌, ◌%◌, ◌<◌, ◌≤◌, Bool, true, false, cond, ltb, ◌||◌, List, [], ◌∷◌, ◌++◌, length, Option, Some, None, Ok, refl, sym, ap, subst, ◌∙◌, arith, inl, inr, ◌⊎◌, append_assoc, slice_range, common_steps, le-ltb, lt-ltb, le-leb, lt-leb, ne_eqb, length-append, has, refuse, range_length, next_is, text_is, octet_again, octet_cut, short_again, short_cut, two_long, AddrTlvFields, flags_at, extension_at, index_octet_at, indexes_at, length_at, value_at, part_count, tlv_of_at, SpellsExtension, SpellsIndex, SpellsLength, SpellsValue, HasEqualParts, SpellsTlvOf, IsBroken, two_indexes, Opens, Extends, Indexes, IsCut, TlvFault, flags_cut, flags_broken, ext_cut, start_cut, start_high, stop_cut, stop_wrong, length_cut, length_uneven, value_cut}
use Rattle.mesh_tlv.proofs.Flags.{unsound_if, sound_if}
use Rattle.mesh_tlv.proofs.Takes.{divides_if, divided_if}

-- ---- field by field

flags_again : (barred : ℕ) (s : List ℕ) (at end flags : ℕ) (rest : List ℕ) → end ≤ length s → (IsBroken barred flags → ⊥) → slice_range s at end ≡ flags ∷ rest → flags_at barred s at end ≡ Ok (flags, at + 1)
unfolding flags_at
flags_again barred s at end flags rest fits h e = rw (octet_again 4 s at end flags rest fits e, sound_if barred flags h) refl

ext_again : (flags : ℕ) (s : List ℕ) (at end ext : ℕ) (text rest : List ℕ) (b : Bool) → end ≤ length s → has flags 128 ≡ b → SpellsExtension b ext text → slice_range s at end ≡ text ++ rest → extension_at flags s at end ≡ Ok (ext, at + length text)
unfolding extension_at
ext_again flags s at end ext text rest true fits is h e = rw (is, octet_again 4 s at end ext rest fits (e ∙ ap (λ (l : List ℕ). l ++ rest) h), h) refl
ext_again flags s at end ext text rest false fits is h e = let none : at ≡ at + 0 = omega arith in rw (is, h.1, h.0) (ap (λ (n : ℕ). Ok (0, n)) none)

place_again : (low count : ℕ) (s : List ℕ) (at end x : ℕ) (rest : List ℕ) → end ≤ length s → low ≤ x → x < count → slice_range s at end ≡ x ∷ rest → index_octet_at low count s at end ≡ Ok (x, at + 1)
unfolding index_octet_at
place_again low count s at end x rest fits le lt e = rw (octet_again 4 s at end x rest fits e, le-ltb x low le, lt-leb count x lt) refl

place_high_again : (low count : ℕ) (s : List ℕ) (at end x : ℕ) (rest : List ℕ) → end ≤ length s → (x < low) ⊎ (count ≤ x) → slice_range s at end ≡ x ∷ rest → index_octet_at low count s at end ≡ refuse at 6
unfolding index_octet_at
place_high_again low count s at end x rest fits (inl lt) e = rw (octet_again 4 s at end x rest fits e, lt-ltb x low lt) refl
place_high_again low count s at end x rest fits (inr le) e = rw (octet_again 4 s at end x rest fits e, le-leb count x le) (either (ltb x low)) where
  either : (b : Bool) → cond (b || true) (refuse {A = ℕ × ℕ} at 6) (Ok (x, at + 1)) ≡ refuse at 6
  either true = refl
  either false = refl

index_again : (flags count : ℕ) (s : List ℕ) (at end first last : ℕ) (text rest : List ℕ) (single multi : Bool) → end ≤ length s → has flags 64 ≡ single → has flags 32 ≡ multi → SpellsIndex single multi count first last text → slice_range s at end ≡ text ++ rest → indexes_at flags count s at end ≡ Ok ((first, last), at + length text)
unfolding indexes_at
index_again flags count s at end first last text rest true false fits is64 is32 h e =
    let there : slice_range s at end ≡ first ∷ rest = e ∙ ap (λ (l : List ℕ). l ++ rest) h.2 in
    let low : 0 ≤ first = omega arith in
    rw (is64, place_again 0 count s at end first rest fits low h.0 there, h.1, h.2) refl
index_again flags count s at end first last text rest false true fits is64 is32 h e =
    let there : slice_range s at end ≡ first ∷ (last ∷ rest) = e ∙ ap (λ (l : List ℕ). l ++ rest) h.2 in
    let low : 0 ≤ first = omega arith in
    let two : at + 1 + 1 ≡ at + 2 = omega arith in
    rw (is64, is32, place_again 0 count s at end first (last ∷ rest) fits low (omega (arith, h.0, h.1)) there, place_again first count s (at + 1) end last rest fits h.0 h.1 (next_is s at end first (last ∷ rest) fits there).2, h.2, two) refl
index_again flags count s at end first last text rest false false fits is64 is32 h e = let none : at ≡ at + 0 = omega arith in rw (is64, is32, h.0, h.1, h.2) (ap (λ (n : ℕ). Ok ((0, count - 1), n)) none)
index_again flags count s at end first last text rest true true fits is64 is32 h e = absurd h

length_again : (flags : ℕ) (s : List ℕ) (at end n : ℕ) (text rest : List ℕ) (wide : Bool) → end ≤ length s → has flags 8 ≡ wide → SpellsLength wide n text → slice_range s at end ≡ text ++ rest → length_at flags s at end ≡ Ok (n, at + length text)
length_again flags s at end n text rest true fits is h e = rw (is, short_again 4 s at end n text rest fits h e, two_long n text h) refl
length_again flags s at end n text rest false fits is h e = rw (is, octet_again 4 s at end n rest fits (e ∙ ap (λ (l : List ℕ). l ++ rest) h), h) refl

length_cut_again : (flags : ℕ) (s : List ℕ) (at end : ℕ) (wide : Bool) → end ≤ length s → has flags 8 ≡ wide → IsCut wide (slice_range s at end) → length_at flags s at end ≡ refuse at 4
length_cut_again flags s at end wide fits is h = grind (arith, common_steps, short_cut, octet_cut)

value_again : (flags first last : ℕ) (s : List ℕ) (at end : ℕ) (v : Option (List ℕ)) (bytes rest : List ℕ) (some wide : Bool) → at ≤ end → end ≤ length s → has flags 16 ≡ some → has flags 8 ≡ wide → SpellsValue some wide v bytes → HasEqualParts (has flags 4) first last v → slice_range s at end ≡ bytes ++ rest → value_at flags (part_count (has flags 4) first last) s at end ≡ Ok (v, at + length bytes)
unfolding value_at
value_again flags first last s at end (Some text) bytes rest true wide le fits is is8 h d e =
    let there : slice_range s at end ≡ h.0 ++ (text ++ rest) = e ∙ ap (λ (l : List ℕ). l ++ rest) h.2 ∙ append_assoc h.0 text rest in
    let behind = text_is s at end h.0 (text ++ rest) le fits there in
    let inside = text_is s (at + length h.0) end text rest behind.0 fits behind.2 in
    let sum : at + length h.0 + length text ≡ at + length bytes = omega (arith, ap length h.2, length-append h.0 text) in
    rw (is, length_again flags s at end (length text) h.0 (text ++ rest) wide fits is8 h.1 there, divided_if (has flags 4) first last (length text) d, le-ltb (end - (at + length h.0)) (length text) (omega (arith, inside.0)), inside.1, sum) refl
value_again flags first last s at end None bytes rest false false le fits is is8 h d e = let none : at ≡ at + 0 = omega arith in rw (is, h) (ap (λ (n : ℕ). Ok (None, n)) none)
value_again flags first last s at end None bytes rest true wide le fits is is8 h d e = absurd h
value_again flags first last s at end None bytes rest false true le fits is is8 h d e = absurd h
value_again flags first last s at end (Some text) bytes rest false wide le fits is is8 h d e = absurd h

-- ---- a whole TLV

not_broken : (barred count : ℕ) (tlv : AddrTlvFields) (bytes : List ℕ) (h : SpellsTlvOf barred count tlv bytes) → IsBroken barred h.flags → ⊥
not_broken barred count tlv bytes h h5 = grind (arith, common_steps)

pub tlv_of_again : (barred count : ℕ) (s : List ℕ) (at end : ℕ) (tlv : AddrTlvFields) (bytes rest : List ℕ) → at ≤ end → end ≤ length s → SpellsTlvOf barred count tlv bytes → slice_range s at end ≡ bytes ++ rest → tlv_of_at barred count s at end ≡ Ok (tlv, at + length bytes)
unfolding tlv_of_at
tlv_of_again barred count s at end tlv bytes rest le fits h e =
    let after_ext : List ℕ = h.index ++ (h.value ++ rest) in
    let there : slice_range s at end ≡ tlv.kind ∷ (h.flags ∷ (h.ext ++ after_ext)) = e ∙ ap (λ (l : List ℕ). l ++ rest) h.whole ∙ ap (λ (l : List ℕ). tlv.kind ∷ (h.flags ∷ l)) (append_assoc h.ext (h.index ++ h.value) rest ∙ ap (λ (l : List ℕ). h.ext ++ l) (append_assoc h.index h.value rest)) in
    let n0 = next_is s at end tlv.kind (h.flags ∷ (h.ext ++ after_ext)) fits there in
    let n1 = next_is s (at + 1) end h.flags (h.ext ++ after_ext) fits n0.2 in
    let n2 = text_is s (at + 1 + 1) end h.ext after_ext (omega (arith, n1.0)) fits n1.2 in
    let n3 = text_is s (at + 1 + 1 + length h.ext) end h.index (h.value ++ rest) n2.0 fits n2.2 in
    let size : at + 1 + 1 + length h.ext + length h.index + length h.value ≡ at + length bytes = omega (arith, ap length h.whole, length-append h.ext (h.index ++ h.value), length-append h.index h.value) in
    rw (
      octet_again 4 s at end tlv.kind (h.flags ∷ (h.ext ++ after_ext)) fits there,
      flags_again barred s (at + 1) end h.flags (h.ext ++ after_ext) fits (not_broken barred count tlv bytes h) n0.2,
      ext_again h.flags s (at + 1 + 1) end tlv.ext h.ext after_ext (has h.flags 128) fits refl h.ext_is n1.2,
      index_again h.flags count s (at + 1 + 1 + length h.ext) end tlv.first tlv.last h.index (h.value ++ rest) (has h.flags 64) (has h.flags 32) fits refl refl h.index_is n2.2,
      value_again h.flags tlv.first tlv.last s (at + 1 + 1 + length h.ext + length h.index) end tlv.value h.value rest (has h.flags 16) (has h.flags 8) n3.0 fits refl refl h.value_is h.equal_parts n3.2,
      size,
    ) (ap (λ (b : Bool). Ok (record { kind = tlv.kind; ext = tlv.ext; first = tlv.first; last = tlv.last; multi = b; value = tlv.value }, at + length bytes)) (sym h.multi_is))

-- ---- a fault

module _ (barred count : ℕ) (s : List ℕ) (at end : ℕ) (le : at ≤ end) (fits : end ≤ length s) where
  -- what a TLV comes to behind each of its parts
  behind_flags : (flags : ℕ) (rest : List ℕ) → Opens barred (slice_range s at end) flags rest → (at + 2 ≤ end) × (slice_range s (at + 2) end ≡ rest)
  behind_flags flags rest h =
      let n0 = next_is s at end h.kind (flags ∷ rest) fits h.parts in
      let n1 = next_is s (at + 1) end flags rest fits n0.2 in
      let two : at + 1 + 1 ≡ at + 2 = omega arith in
      (omega (arith, n1.0), subst (λ (n : ℕ). slice_range s n end ≡ rest) two n1.2)

  to_ext : (flags place reason : ℕ) (rest : List ℕ) → Opens barred (slice_range s at end) flags rest → extension_at flags s (at + 2) end ≡ refuse place reason → tlv_of_at barred count s at end ≡ refuse place reason
  unfolding tlv_of_at
  to_ext flags place reason rest h k =
      let n0 = next_is s at end h.kind (flags ∷ rest) fits h.parts in
      let two : at + 1 + 1 ≡ at + 2 = omega arith in
      rw (octet_again 4 s at end h.kind (flags ∷ rest) fits h.parts, flags_again barred s (at + 1) end flags rest fits h.not_broken n0.2, two, k) refl

  behind_ext : (flags : ℕ) (ext rest : List ℕ) → Extends barred (slice_range s at end) flags ext rest → (at + (2 + length ext) ≤ end) × (slice_range s (at + (2 + length ext)) end ≡ rest)
  behind_ext flags ext rest h =
      let n1 = behind_flags flags (ext ++ rest) h.opens in
      let n2 = text_is s (at + 2) end ext rest n1.0 fits n1.1 in
      let sum : at + 2 + length ext ≡ at + (2 + length ext) = omega arith in
      (omega (arith, n2.0), subst (λ (n : ℕ). slice_range s n end ≡ rest) sum n2.2)

  to_index : (flags place reason : ℕ) (ext rest : List ℕ) → Extends barred (slice_range s at end) flags ext rest → indexes_at flags count s (at + (2 + length ext)) end ≡ refuse place reason → tlv_of_at barred count s at end ≡ refuse place reason
  unfolding tlv_of_at
  to_index flags place reason ext rest h k =
      let n0 = next_is s at end h.opens.kind (flags ∷ (ext ++ rest)) fits h.opens.parts in
      let n1 = behind_flags flags (ext ++ rest) h.opens in
      let two : at + 1 + 1 ≡ at + 2 = omega arith in
      let sum : at + 2 + length ext ≡ at + (2 + length ext) = omega arith in
      rw (octet_again 4 s at end h.opens.kind (flags ∷ (ext ++ rest)) fits h.opens.parts, flags_again barred s (at + 1) end flags (ext ++ rest) fits h.opens.not_broken n0.2, two, ext_again flags s (at + 2) end h.number ext rest (has flags 128) fits refl h.ext_is n1.1, sum, k) refl

  behind_index : (flags first last : ℕ) (head rest : List ℕ) → Indexes barred count (slice_range s at end) flags first last head rest → (at + (2 + length head) ≤ end) × (slice_range s (at + (2 + length head)) end ≡ rest)
  behind_index flags first last head rest h =
      let n2 = behind_ext flags h.ext (h.index ++ rest) h.extends in
      let n3 = text_is s (at + (2 + length h.ext)) end h.index rest n2.0 fits n2.1 in
      let sum : at + (2 + length h.ext) + length h.index ≡ at + (2 + length head) = omega (arith, ap length h.head_is, length-append h.ext h.index) in
      (omega (arith, n3.0), subst (λ (n : ℕ). slice_range s n end ≡ rest) sum n3.2)

  to_value : (flags first last place reason : ℕ) (head rest : List ℕ) → Indexes barred count (slice_range s at end) flags first last head rest → value_at flags (part_count (has flags 4) first last) s (at + (2 + length head)) end ≡ refuse place reason → tlv_of_at barred count s at end ≡ refuse place reason
  unfolding tlv_of_at
  to_value flags first last place reason head rest h k =
      let opens = h.extends.opens in
      let n0 = next_is s at end opens.kind (flags ∷ (h.ext ++ (h.index ++ rest))) fits opens.parts in
      let n1 = behind_flags flags (h.ext ++ (h.index ++ rest)) opens in
      let n2 = behind_ext flags h.ext (h.index ++ rest) h.extends in
      let two : at + 1 + 1 ≡ at + 2 = omega arith in
      let sum : at + 2 + length h.ext ≡ at + (2 + length h.ext) = omega arith in
      let sums : at + (2 + length h.ext) + length h.index ≡ at + (2 + length head) = omega (arith, ap length h.head_is, length-append h.ext h.index) in
      rw (
        octet_again 4 s at end opens.kind (flags ∷ (h.ext ++ (h.index ++ rest))) fits opens.parts,
        flags_again barred s (at + 1) end flags (h.ext ++ (h.index ++ rest)) fits opens.not_broken n0.2,
        two,
        ext_again flags s (at + 2) end h.extends.number h.ext (h.index ++ rest) (has flags 128) fits refl h.extends.ext_is n1.1,
        sum,
        index_again flags count s (at + (2 + length h.ext)) end first last h.index rest (has flags 64) (has flags 32) fits refl refl h.index_is n2.1,
        sums,
        k,
      ) refl

  -- the first index, where one is flagged
  start_refused : (flags place reason : ℕ) (single multi : Bool) (at : ℕ) → has flags 64 ≡ single → has flags 32 ≡ multi → (single ≡ true) ⊎ (multi ≡ true) → index_octet_at 0 count s at end ≡ refuse place reason → indexes_at flags count s at end ≡ refuse place reason
  unfolding indexes_at
  start_refused flags place reason single multi at is64 is32 some k = grind (arith, common_steps)

  stop_refused : (flags start place reason : ℕ) (single : Bool) (at : ℕ) (rest : List ℕ) → has flags 64 ≡ single → has flags 32 ≡ true → (IsBroken barred flags → ⊥) → start < count → slice_range s at end ≡ start ∷ rest → index_octet_at start count s (at + 1) end ≡ refuse place reason → indexes_at flags count s at end ≡ refuse place reason
  unfolding indexes_at
  stop_refused flags start place reason true at rest is64 is32 sound lt e k = absurd (sound (two_indexes is64 is32))
  stop_refused flags start place reason false at rest is64 is32 sound lt e k = let low : 0 ≤ start = omega arith in rw (is64, is32, place_again 0 count s at end start rest fits low lt e, k) refl

  pub fault_again : (distance reason : ℕ) → TlvFault barred count (slice_range s at end) distance reason → tlv_of_at barred count s at end ≡ refuse (at + distance) reason
  unfolding tlv_of_at flags_at extension_at index_octet_at value_at
  fault_again distance reason (flags_cut kind e) = grind (arith, common_steps, octet_again, octet_cut, next_is)
  fault_again distance reason (flags_broken kind flags rest e broken) =
      let n0 = next_is s at end kind (flags ∷ rest) fits e in
      rw (octet_again 4 s at end kind (flags ∷ rest) fits e, octet_again 4 s (at + 1) end flags rest fits n0.2, unsound_if barred flags broken) refl
  fault_again distance reason (ext_cut flags h is) =
      to_ext flags (at + 2) 4 [] h (rw (is, octet_cut 4 s (at + 2) end fits (behind_flags flags [] h).1) refl)
  fault_again distance reason (start_cut flags ext h some) =
      let there = behind_ext flags ext [] h in
      to_index flags (at + (2 + length ext)) 4 ext [] h (start_refused flags (at + (2 + length ext)) 4 (has flags 64) (has flags 32) (at + (2 + length ext)) refl refl some (rw (octet_cut 4 s (at + (2 + length ext)) end fits there.1) refl))
  fault_again distance reason (start_high flags start ext rest h some le) =
      let there = behind_ext flags ext (start ∷ rest) h in
      to_index flags (at + (2 + length ext)) 6 ext (start ∷ rest) h (start_refused flags (at + (2 + length ext)) 6 (has flags 64) (has flags 32) (at + (2 + length ext)) refl refl some (place_high_again 0 count s (at + (2 + length ext)) end start rest fits (inr le) there.1))
  fault_again distance reason (stop_cut flags start ext h is lt) =
      let there = behind_ext flags ext (start ∷ []) h in
      let next = next_is s (at + (2 + length ext)) end start [] fits there.1 in
      let sum : at + (2 + length ext) + 1 ≡ at + (3 + length ext) = omega arith in
      subst (λ (n : ℕ). tlv_of_at barred count s at end ≡ refuse n 4) sum (to_index flags (at + (2 + length ext) + 1) 4 ext (start ∷ []) h (stop_refused flags start (at + (2 + length ext) + 1) 4 (has flags 64) (at + (2 + length ext)) [] refl is h.opens.not_broken lt there.1 (rw (octet_cut 4 s (at + (2 + length ext) + 1) end fits next.2) refl)))
  fault_again distance reason (stop_wrong flags start stop ext rest h is lt off) =
      let there = behind_ext flags ext (start ∷ (stop ∷ rest)) h in
      let next = next_is s (at + (2 + length ext)) end start (stop ∷ rest) fits there.1 in
      let sum : at + (2 + length ext) + 1 ≡ at + (3 + length ext) = omega arith in
      subst (λ (n : ℕ). tlv_of_at barred count s at end ≡ refuse n 6) sum (to_index flags (at + (2 + length ext) + 1) 6 ext (start ∷ (stop ∷ rest)) h (stop_refused flags start (at + (2 + length ext) + 1) 6 (has flags 64) (at + (2 + length ext)) (stop ∷ rest) refl is h.opens.not_broken lt there.1 (place_high_again start count s (at + (2 + length ext) + 1) end stop rest fits off next.2)))
  fault_again distance reason (length_cut flags first last head rest h is cut) =
      let there = behind_index flags first last head rest h in
      to_value flags first last (at + (2 + length head)) 4 head rest h (rw (is, length_cut_again flags s (at + (2 + length head)) end (has flags 8) fits refl (subst (λ (l : List ℕ). IsCut (has flags 8) l) (sym there.1) cut)) refl)
  fault_again distance reason (length_uneven flags first last n head len rest h is spelled uneven) =
      let there = behind_index flags first last head (len ++ rest) h in
      to_value flags first last (at + (2 + length head)) 7 head (len ++ rest) h (rw (is, length_again flags s (at + (2 + length head)) end n len rest (has flags 8) fits refl spelled there.1, ne_eqb (n % part_count (has flags 4) first last) 0 (λ z. uneven (divides_if (has flags 4) first last n z))) refl)
  fault_again distance reason (value_cut flags first last n head len rest h is spelled divides lt) =
      let there = behind_index flags first last head (len ++ rest) h in
      let behind = text_is s (at + (2 + length head)) end len rest there.0 fits there.1 in
      let sum : at + (2 + length head) + length len ≡ at + (2 + length head + length len) = omega arith in
      let short : end - (at + (2 + length head) + length len) < n = omega (arith, range_length s (at + (2 + length head) + length len) end fits, ap length behind.2) in
      subst (λ (k : ℕ). tlv_of_at barred count s at end ≡ refuse k 4) sum (to_value flags first last (at + (2 + length head) + length len) 4 head (len ++ rest) h (rw (is, length_again flags s (at + (2 + length head)) end n len rest (has flags 8) fits refl spelled there.1, divided_if (has flags 4) first last n divides, lt-ltb (end - (at + (2 + length head) + length len)) n short) refl))
