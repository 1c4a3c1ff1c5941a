-- What is read is spelled so, and what is refused has its first fault there.
use Rattle.mesh_tlv.proofs.Common.{common_steps, ◌≡◌, ℕ, ◌+◌, ◌-◌, ◌%◌, ◌<◌, ◌≤◌, Bool, true, false, not, cond, eqb, ltb, leb, ◌||◌, List, [], ◌∷◌, ◌++◌, length, Option, Ok, Err, refl, sym, ap, subst, ◌∙◌, arith, inl, inr, ◌⊎◌, MatchResult, slice_range, ltb-false, ltb-true, leb-false, leb-true, eqb-true, eqb-false, false_from_ne_true as not_true, not-true, not-false, length-append, Refusal, Reading, has, refuse, octet_at, meets_bind, meets_if, Takes, takes_none, takes_both, takes_range, range_length, octet_takes, short_takes, is_sound, flags_at, extension_at, index_octet_at, indexes_at, length_at, value_at, part_count, tlv_of_at, SpellsExtension, SpellsIndex, SpellsLength, SpellsValue, Divides, HasEqualParts, SpellsTlvOf, IsBroken, two_indexes, wide_nothing, multi_nothing, Opens, Extends, Indexes, IsCut, TlvFault, flags_cut, flags_broken, ext_cut, start_cut, start_high, stop_cut, stop_wrong, length_cut, length_uneven, value_cut, FirstFaultAt}
use Rattle.mesh_tlv.proofs.Items.{Took}
use Rattle.mesh_tlv.proofs.Flags.{broken_if, not_broken_if, taken_if}

-- ---- field by field

flags_takes : (barred count : ℕ) (s : List ℕ) (start at end kind : ℕ) → end ≤ length s → Takes s start (kind ∷ []) at end → MatchResult (flags_at barred s at end) (λ x. (IsBroken barred x.0 → ⊥) × Takes s at (x.0 ∷ []) x.1 end) (FirstFaultAt (TlvFault barred count) s start end)
unfolding flags_at
flags_takes barred count s start at end kind fits t0 =
    let P = λ (x : ℕ × ℕ). (IsBroken barred x.0 → ⊥) × Takes s at (x.0 ∷ []) x.1 end in
    let Q = FirstFaultAt (TlvFault barred count) s start end in
    meets_bind (octet_at 4 s at end) _ _ P _ Q (octet_takes 4 s at end fits)
    (λ e h. (1, ap (λ (r : Refusal). r.place) h.0 ∙ t0.len, subst (λ (n : ℕ). TlvFault barred count (slice_range s start end) 1 n) (sym (ap (λ (r : Refusal). r.reason) h.0)) (flags_cut kind (t0.parts ∙ ap (λ (l : List ℕ). kind ∷ l) h.1))))
    (λ x t1. meets_if (is_sound barred x.0) _ _ P Q
    (λ p. (not_broken_if barred x.0 p, t1))
    (λ p. (1, t0.len, flags_broken kind x.0 (slice_range s x.1 end) (t0.parts ∙ ap (λ (l : List ℕ). kind ∷ l) t1.parts) (broken_if barred x.0 p))))

ext_takes : (flags : ℕ) (s : List ℕ) (at end : ℕ) → at ≤ end → end ≤ length s → MatchResult (extension_at flags s at end) (Took s at end (SpellsExtension (has flags 128))) (λ e. (e ≡ record { place = at; reason = 4 }) × (has flags 128 ≡ true) × (slice_range s at end ≡ []))
unfolding extension_at
ext_takes flags s at end le fits =
    let P = Took s at end (SpellsExtension (has flags 128)) in
    let Q = λ (e : Refusal). (e ≡ record { place = at; reason = 4 }) × (has flags 128 ≡ true) × (slice_range s at end ≡ []) in
    meets_if (has flags 128) _ _ P Q
    (λ p. weaker (octet_at 4 s at end) p (octet_takes 4 s at end fits))
    (λ p. ([], rw p (refl, refl), takes_none s at end le)) where
      weaker : (r : Reading ℕ) → has flags 128 ≡ true → MatchResult r (λ x. Takes s at (x.0 ∷ []) x.1 end) (λ e. (e ≡ record { place = at; reason = 4 }) × (slice_range s at end ≡ [])) → MatchResult r (Took s at end (SpellsExtension (has flags 128))) (λ e. (e ≡ record { place = at; reason = 4 }) × (has flags 128 ≡ true) × (slice_range s at end ≡ []))
      weaker (Ok x) p h = (x.0 ∷ [], rw p refl, h)
      weaker (Err e) p h = (h.0, p, h.1)

data PlaceFault (low count : ℕ) (s : List ℕ) (at end : ℕ) : Refusal → Type 0 where
  place_cut : slice_range s at end ≡ [] → PlaceFault low count s at end (record { place = at; reason = 4 })
  place_low : (x : ℕ) (rest : List ℕ) → slice_range s at end ≡ x ∷ rest → x < low → PlaceFault low count s at end (record { place = at; reason = 6 })
  place_high : (x : ℕ) (rest : List ℕ) → slice_range s at end ≡ x ∷ rest → count ≤ x → PlaceFault low count s at end (record { place = at; reason = 6 })

place_takes : (low count : ℕ) (s : List ℕ) (at end : ℕ) → end ≤ length s → MatchResult (index_octet_at low count s at end) (λ x. (low ≤ x.0) × (x.0 < count) × Takes s at (x.0 ∷ []) x.1 end) (PlaceFault low count s at end)
unfolding index_octet_at
place_takes low count s at end fits =
    let P = λ (x : ℕ × ℕ). (low ≤ x.0) × (x.0 < count) × Takes s at (x.0 ∷ []) x.1 end in
    let Q = PlaceFault low count s at end in
    meets_bind (octet_at 4 s at end) _ _ P _ Q (octet_takes 4 s at end fits)
    (λ e h. subst Q (sym h.0) (place_cut h.1))
    (λ x t. inside x t (ltb x.0 low) (leb count x.0) refl refl) where
      inside : (x : ℕ × ℕ) → Takes s at (x.0 ∷ []) x.1 end → (a b : Bool) → ltb x.0 low ≡ a → leb count x.0 ≡ b → MatchResult (cond (a || b) (refuse at 6) (Ok x)) (λ x. (low ≤ x.0) × (x.0 < count) × Takes s at (x.0 ∷ []) x.1 end) (PlaceFault low count s at end)
      inside x t true b p q = place_low x.0 (slice_range s x.1 end) t.parts (ltb-true _ _ p)
      inside x t false true p q = place_high x.0 (slice_range s x.1 end) t.parts (leb-true _ _ q)
      inside x t false false p q = (ltb-false _ _ p, leb-false _ _ q, t)

module _ (barred count flags : ℕ) (s : List ℕ) (start at end : ℕ) (ext : List ℕ) (fits : end ≤ length s) (pos : 0 < count) (len : at ≡ start + (2 + length ext)) (extends : Extends barred (slice_range s start end) flags ext (slice_range s at end)) where
  start_fault : (e : Refusal) → ((has flags 64 ≡ true) ⊎ (has flags 32 ≡ true)) → PlaceFault 0 count s at end e → FirstFaultAt (TlvFault barred count) s start end e
  start_fault e some (place_cut h) = (2 + length ext, len, start_cut flags ext (subst (λ (l : List ℕ). Extends barred (slice_range s start end) flags ext l) h extends) some)
  start_fault e some (place_low x rest h lt) = absurd (omega arith)
  start_fault e some (place_high x rest h le) = (2 + length ext, len, start_high flags x ext rest (subst (λ (l : List ℕ). Extends barred (slice_range s start end) flags ext l) h extends) some le)

  stop_fault : (e : Refusal) (first next : ℕ) → has flags 32 ≡ true → first < count → Takes s at (first ∷ []) next end → PlaceFault first count s next end e → FirstFaultAt (TlvFault barred count) s start end e
  stop_fault e first next p lt t (place_cut h) = (
    3 + length ext,
    omega (arith, t.len),
    stop_cut flags first ext (subst (λ (l : List ℕ). Extends barred (slice_range s start end) flags ext l) (t.parts ∙ ap (λ (l : List ℕ). first ∷ l) h) extends) p lt,
  )
  stop_fault e first next p lt t (place_low x rest h low) = (
    3 + length ext,
    omega (arith, t.len),
    stop_wrong flags first x ext rest (subst (λ (l : List ℕ). Extends barred (slice_range s start end) flags ext l) (t.parts ∙ ap (λ (l : List ℕ). first ∷ l) h) extends) p lt (inl low),
  )
  stop_fault e first next p lt t (place_high x rest h le) = (
    3 + length ext,
    omega (arith, t.len),
    stop_wrong flags first x ext rest (subst (λ (l : List ℕ). Extends barred (slice_range s start end) flags ext l) (t.parts ∙ ap (λ (l : List ℕ). first ∷ l) h) extends) p lt (inr le),
  )

  index_takes : at ≤ end → MatchResult (indexes_at flags count s at end) (Took s at end (λ (i : ℕ × ℕ). SpellsIndex (has flags 64) (has flags 32) count i.0 i.1)) (FirstFaultAt (TlvFault barred count) s start end)
  unfolding indexes_at
  index_takes le =
      let P = Took s at end (λ (i : ℕ × ℕ). SpellsIndex (has flags 64) (has flags 32) count i.0 i.1) in
      let Q = FirstFaultAt (TlvFault barred count) s start end in
      meets_if (has flags 64) _ _ P Q
      (λ p. meets_bind (index_octet_at 0 count s at end) _ _ P _ Q (place_takes 0 count s at end fits) (λ e h. start_fault e (inl p) h)
      (λ x t. let r : has flags 32 ≡ false = not_true (has flags 32) (λ q. extends.opens.not_broken (two_indexes p q)) in (x.0 ∷ [], rw (p, r) (t.1, refl, refl), t.2)))
      (λ p. meets_if (has flags 32) _ _ P Q
      (λ q. meets_bind (index_octet_at 0 count s at end) _ _ P _ Q (place_takes 0 count s at end fits) (λ e h. start_fault e (inr q) h)
      (λ x t. meets_bind (index_octet_at x.0 count s x.1 end) _ _ P _ Q (place_takes x.0 count s x.1 end fits) (λ e h. stop_fault e x.0 x.1 q t.1 t.2 h)
      (λ y u. (x.0 ∷ (y.0 ∷ []), rw (p, q) (u.0, u.1, refl), takes_both s at (x.0 ∷ []) x.1 (y.0 ∷ []) y.1 end t.2 u.2))))
      (λ q. ([], rw (p, q) (refl, refl, refl), takes_none s at end le)))

length_takes : (flags : ℕ) (s : List ℕ) (at end : ℕ) → end ≤ length s → MatchResult (length_at flags s at end) (Took s at end (SpellsLength (has flags 8))) (λ e. (e ≡ record { place = at; reason = 4 }) × IsCut (has flags 8) (slice_range s at end))
length_takes flags s at end fits =
    let P = Took s at end (SpellsLength (has flags 8)) in
    let Q = λ (e : Refusal). (e ≡ record { place = at; reason = 4 }) × IsCut (has flags 8) (slice_range s at end) in
    meets_if (has flags 8) _ _ P Q
    (λ p. rw p (short_takes 4 s at end fits))
    (λ p. rw p (narrow (octet_at 4 s at end) (octet_takes 4 s at end fits))) where
      narrow : (r : Reading ℕ) → MatchResult r (λ x. Takes s at (x.0 ∷ []) x.1 end) (λ e. (e ≡ record { place = at; reason = 4 }) × (slice_range s at end ≡ [])) → MatchResult r (Took s at end (λ n text. text ≡ n ∷ [])) (λ e. (e ≡ record { place = at; reason = 4 }) × (slice_range s at end ≡ []))
      narrow (Ok x) h = (x.0 ∷ [], refl, h)
      narrow (Err e) h = h

pub divides_if : (multi : Bool) (first last n : ℕ) → n % part_count multi first last ≡ 0 → Divides multi first last n
divides_if multi first last n h = grind (arith, common_steps)

pub divided_if : (multi : Bool) (first last n : ℕ) → Divides multi first last n → n % part_count multi first last ≡ 0
divided_if multi first last n h = grind (arith, common_steps)

module _ (barred count flags first last : ℕ) (s : List ℕ) (start at end : ℕ) (head : List ℕ) (fits : end ≤ length s) (len : at ≡ start + (2 + length head)) (indexes : Indexes barred count (slice_range s start end) flags first last head (slice_range s at end)) where
  value_takes : at ≤ end → MatchResult (value_at flags (part_count (has flags 4) first last) s at end) (Took s at end (λ (v : Option (List ℕ)) text. SpellsValue (has flags 16) (has flags 8) v text × HasEqualParts (has flags 4) first last v)) (FirstFaultAt (TlvFault barred count) s start end)
  unfolding value_at
  value_takes le =
      let P = Took s at end (λ (v : Option (List ℕ)) text. SpellsValue (has flags 16) (has flags 8) v text × HasEqualParts (has flags 4) first last v) in
      let Q = FirstFaultAt (TlvFault barred count) s start end in
      meets_if (has flags 16) _ _ P Q
      (λ p. meets_bind (length_at flags s at end) _ _ P _ Q (length_takes flags s at end fits)
      (λ e h. (
        2 + length head,
        ap (λ (r : Refusal). r.place) h.0 ∙ len,
        subst (λ (n : ℕ). TlvFault barred count (slice_range s start end) (2 + length head) n) (sym (ap (λ (r : Refusal). r.reason) h.0)) (length_cut flags first last head (slice_range s at end) indexes p h.1),
      ))
      (λ x t.
      let indexed : Indexes barred count (slice_range s start end) flags first last head (t.0 ++ slice_range s x.1 end) = subst (λ (l : List ℕ). Indexes barred count (slice_range s start end) flags first last head l) t.2.parts indexes in
      meets_if (not (eqb (x.0 % part_count (has flags 4) first last) 0)) _ _ P Q
      (λ q. (
        2 + length head,
        len,
        length_uneven flags first last x.0 head t.0 (slice_range s x.1 end) indexed p t.1 (λ d. eqb-false (x.0 % part_count (has flags 4) first last) 0 (not-true _ q) (divided_if (has flags 4) first last x.0 d)),
      ))
      (λ q.
      let divides : Divides (has flags 4) first last x.0 = divides_if (has flags 4) first last x.0 (eqb-true _ _ (not-false _ q)) in
      meets_if (ltb (end - x.1) x.0) _ _ P Q
      (λ r. (
        2 + length head + length t.0,
        omega (arith, t.2.len),
        value_cut flags first last x.0 head t.0 (slice_range s x.1 end) indexed p t.1 divides (omega (arith, ltb-true _ _ r, range_length s x.1 end fits)),
      ))
      (λ r.
      let fit : x.1 + x.0 ≤ end = omega (arith, ltb-false _ _ r, t.2.within) in
      let text : List ℕ = slice_range s x.1 (x.1 + x.0) in
      let size : x.0 ≡ length text = omega (arith, range_length s x.1 (x.1 + x.0) (omega arith)) in (
        t.0 ++ text,
        (rw p (t.0, subst (λ (n : ℕ). SpellsLength (has flags 8) n t.0) size t.1, refl), subst (λ (n : ℕ). Divides (has flags 4) first last n) size divides),
        takes_both s at t.0 x.1 text (x.1 + x.0) end t.2 (takes_range s x.1 x.0 end fit fits),
      )))))
      (λ p.
      let wide : has flags 8 ≡ false = not_true (has flags 8) (λ q. indexes.extends.opens.not_broken (wide_nothing q p)) in
      let multi : has flags 4 ≡ false = not_true (has flags 4) (λ q. indexes.extends.opens.not_broken (multi_nothing q p)) in
      ([], (rw (p, wide) refl, multi), takes_none s at end le))

pub tlv_of_takes : (barred count : ℕ) (s : List ℕ) (at end : ℕ) → 0 < count → at < end → end ≤ length s → MatchResult (tlv_of_at barred count s at end) (Took s at end (SpellsTlvOf barred count)) (FirstFaultAt (TlvFault barred count) s at end)
unfolding tlv_of_at
tlv_of_takes barred count s at end pos lt fits =
    let B : List ℕ = slice_range s at end in
    let P = Took s at end (SpellsTlvOf barred count) in
    let Q = FirstFaultAt (TlvFault barred count) s at end in
    meets_bind (octet_at 4 s at end) _ _ P _ Q (octet_takes 4 s at end fits) (λ e h. absurd (omega (arith, ap length h.1, range_length s at end fits))) (λ kind t0.
    meets_bind (flags_at barred s kind.1 end) _ _ P _ Q (flags_takes barred count s at kind.1 end kind.0 fits t0) (λ e h. h) (λ flags t1.
    let opens : Opens barred B flags.0 (slice_range s flags.1 end) = record { kind = kind.0; not_broken = t1.0; parts = t0.parts ∙ ap (λ (l : List ℕ). kind.0 ∷ l) t1.1.parts } in
    let two : flags.1 ≡ at + 2 = omega (arith, t0.len, t1.1.len) in
    meets_bind (extension_at flags.0 s flags.1 end) _ _ P _ Q (ext_takes flags.0 s flags.1 end t1.1.within fits)
    (λ e h. (
      2,
      ap (λ (r : Refusal). r.place) h.0 ∙ two,
      subst (λ (n : ℕ). TlvFault barred count B 2 n) (sym (ap (λ (r : Refusal). r.reason) h.0)) (ext_cut flags.0 (subst (λ (l : List ℕ). Opens barred B flags.0 l) h.2 opens) h.1),
    ))
    (λ ext t2.
    let extends : Extends barred B flags.0 t2.0 (slice_range s ext.1 end) = record { opens = subst (λ (l : List ℕ). Opens barred B flags.0 l) t2.2.parts opens; number = ext.0; ext_is = t2.1 } in
    meets_bind (indexes_at flags.0 count s ext.1 end) _ _ P _ Q (index_takes barred count flags.0 s at ext.1 end t2.0 fits pos (omega (arith, t2.2.len)) extends t2.2.within) (λ e h. h) (λ index t3.
    let indexes : Indexes barred count B flags.0 index.0.0 index.0.1 (t2.0 ++ t3.0) (slice_range s index.1 end) = record { ext = t2.0; index = t3.0; extends = subst (λ (l : List ℕ). Extends barred B flags.0 t2.0 l) t3.2.parts extends; index_is = t3.1; head_is = refl } in
    meets_bind (value_at flags.0 (part_count (has flags.0 4) index.0.0 index.0.1) s index.1 end) _ _ P _ Q (value_takes barred count flags.0 index.0.0 index.0.1 s at index.1 end (t2.0 ++ t3.0) fits (omega (arith, t2.2.len, t3.2.len, length-append t2.0 t3.0)) indexes t3.2.within) (λ e h. h) (λ value t4. (
      kind.0 ∷ (flags.0 ∷ (t2.0 ++ (t3.0 ++ t4.0))),
      record {
        flags = flags.0;
        ext = t2.0;
        index = t3.0;
        value = t4.0;
        not_barred = taken_if barred flags.0 t1.0;
        ext_is = t2.1;
        index_is = t3.1;
        value_is = t4.1.0;
        multi_is = refl;
        equal_parts = t4.1.1;
        whole = refl;
      },
      takes_both s at (kind.0 ∷ []) kind.1 (flags.0 ∷ (t2.0 ++ (t3.0 ++ t4.0))) value.1 end t0 (takes_both s kind.1 (flags.0 ∷ []) flags.1 (t2.0 ++ (t3.0 ++ t4.0)) value.1 end t1.1 (takes_both s flags.1 t2.0 ext.1 (t3.0 ++ t4.0) value.1 end t2.2 (takes_both s ext.1 t3.0 index.1 t4.0 value.1 end t3.2 t4.2))),
    ))))))
