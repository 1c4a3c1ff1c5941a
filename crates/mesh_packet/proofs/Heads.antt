-- What a message has before its TLVs: read, spelled and cut off.
use Rattle.mesh_packet.proofs.Common.{◌≡◌, ℕ, ◌+◌, ◌<◌, ◌≤◌, List, ◌++◌, length, Option, Ok, ap, subst, ◌∙◌, arith, append_assoc, MatchResult, slice_range, length-append, common_steps, Refusal, has, meets_bind, Takes, takes_both, Stands, stands_first, stands_next, RawAddr, MessageHeader, SpellsMessageHead, HeadCut, originator_cut, limit_cut, count_cut, sequence_cut, width_of, originator_size, limit_size, count_size, sequence_size, head_size, octet_if, short_if, originator_if, head_at}
use Rattle.mesh_packet.proofs.Fields.{Took, octet_field, number_field, originator_field}

abbrev pub SpellsOpening : ℕ → MessageHeader → List ℕ → Type 0
SpellsOpening flags h text = SpellsMessageHead flags h.originator h.limit h.count h.sequence text

-- a part of the head is cut off at that distance
abbrev pub IsHeadCut : ℕ → List ℕ → ℕ → ℕ → Refusal → Type 0
IsHeadCut flags s at end e = (place : ℕ) × (e ≡ record { place = at + place; reason = 1 }) × HeadCut flags (slice_range s at end) place

-- a field that is cut off behind what was taken
shorter : (s : List ℕ) (at : ℕ) (front : List ℕ) (mid end size : ℕ) → Takes s at front mid end → length (slice_range s mid end) < size → (length front ≤ length (slice_range s at end)) × (length (slice_range s at end) < length front + size)
shorter s at front mid end size t cut = grind (arith, common_steps, length-append)

pub head_takes : (flags : ℕ) (s : List ℕ) (at end : ℕ) → at ≤ end → end ≤ length s → MatchResult (head_at flags s at end) (Took s at end (SpellsOpening flags)) (IsHeadCut flags s at end)
unfolding head_at
head_takes flags s at end le fits =
    let P = Took s at end (SpellsOpening flags) in
    let Q = IsHeadCut flags s at end in
    let width : ℕ = width_of flags in
    let first = originator_field (has flags 128) width in
    let second = octet_field (has flags 64) in
    let third = octet_field (has flags 32) in
    let fourth = number_field (has flags 16) in
    meets_bind (originator_if (has flags 128) width s at end) _ _ P _ Q (first.takes s at end le fits)
    (λ e h. let here : at ≡ at + 0 = omega arith in (0, h.0 ∙ ap (λ (k : ℕ). record { place = k; reason = 1 }) here, originator_cut h.1))
    (λ o t1.
    let size1 : length t1.0 ≡ originator_size flags = first.long o.0 t1.0 t1.1 in
    meets_bind (octet_if (has flags 64) s o.1 end) _ _ P _ Q (second.takes s o.1 end t1.2.within fits)
    (λ e h.
    let short = shorter s at t1.0 o.1 end (limit_size flags) t1.2 h.1 in
    let place : o.1 ≡ at + originator_size flags = omega (arith, t1.2.len, size1) in
    (originator_size flags, h.0 ∙ ap (λ (k : ℕ). record { place = k; reason = 1 }) place, limit_cut (omega (arith, short.0, size1)) (omega (arith, short.1, size1))))
    (λ l t2.
    let size2 : length t2.0 ≡ limit_size flags = second.long l.0 t2.0 t2.1 in
    let taken2 = takes_both s at t1.0 o.1 t2.0 l.1 end t1.2 t2.2 in
    let both2 : length (t1.0 ++ t2.0) ≡ originator_size flags + limit_size flags = omega (arith, length-append t1.0 t2.0, size1, size2) in
    meets_bind (octet_if (has flags 32) s l.1 end) _ _ P _ Q (third.takes s l.1 end t2.2.within fits)
    (λ e h.
    let short = shorter s at (t1.0 ++ t2.0) l.1 end (count_size flags) taken2 h.1 in
    let place : l.1 ≡ at + (originator_size flags + limit_size flags) = omega (arith, taken2.len, both2) in
    (originator_size flags + limit_size flags, h.0 ∙ ap (λ (k : ℕ). record { place = k; reason = 1 }) place, count_cut (omega (arith, short.0, both2)) (omega (arith, short.1, both2))))
    (λ c t3.
    let size3 : length t3.0 ≡ count_size flags = third.long c.0 t3.0 t3.1 in
    let taken3 = takes_both s at (t1.0 ++ t2.0) l.1 t3.0 c.1 end taken2 t3.2 in
    let both3 : length ((t1.0 ++ t2.0) ++ t3.0) ≡ originator_size flags + limit_size flags + count_size flags = omega (arith, length-append (t1.0 ++ t2.0) t3.0, both2, size3) in
    meets_bind (short_if (has flags 16) s c.1 end) _ _ P _ Q (fourth.takes s c.1 end t3.2.within fits)
    (λ e h.
    let short = shorter s at ((t1.0 ++ t2.0) ++ t3.0) c.1 end (sequence_size flags) taken3 h.1 in
    let place : c.1 ≡ at + (originator_size flags + limit_size flags + count_size flags) = omega (arith, taken3.len, both3) in
    (originator_size flags + limit_size flags + count_size flags, h.0 ∙ ap (λ (k : ℕ). record { place = k; reason = 1 }) place, sequence_cut (omega (arith, short.0, both3)) (omega (arith, short.1, both3))))
    (λ q t4. (
      ((t1.0 ++ t2.0) ++ t3.0) ++ t4.0,
      record {
        originator_text = t1.0;
        limit_text = t2.0;
        count_text = t3.0;
        sequence_text = t4.0;
        originator_is = t1.1;
        limit_is = t2.1;
        count_is = t3.1;
        sequence_is = t4.1;
        whole = append_assoc (t1.0 ++ t2.0) t3.0 t4.0 ∙ append_assoc t1.0 t2.0 (t3.0 ++ t4.0);
      },
      takes_both s at ((t1.0 ++ t2.0) ++ t3.0) c.1 t4.0 q.1 end taken3 t4.2,
    )))))

pub head_long : (flags : ℕ) (o : Option RawAddr) (l c q : Option ℕ) (text : List ℕ) → SpellsMessageHead flags o l c q text → length text ≡ head_size flags
head_long flags o l c q text h = grind (arith, common_steps, length-append, originator_field, octet_field, number_field)

pub head_again : (flags : ℕ) (s : List ℕ) (at : ℕ) (o : Option RawAddr) (l c q : Option ℕ) (text rest : List ℕ) (end : ℕ) → Stands s at text rest end → SpellsMessageHead flags o l c q text → head_at flags s at end ≡ Ok (record { originator = o; limit = l; count = c; sequence = q }, at + length text)
unfolding head_at
head_again flags s at o l c q text rest end stands h =
    let more1 : List ℕ = h.limit_text ++ (h.count_text ++ h.sequence_text) in
    let more2 : List ℕ = h.count_text ++ h.sequence_text in
    let s0 : Stands s at (h.originator_text ++ more1) rest end = subst (λ (x : List ℕ). Stands s at x rest end) h.whole stands in
    let s1 = stands_next s at h.originator_text more1 rest end s0 in
    let s2 = stands_next s (at + length h.originator_text) h.limit_text more2 rest end s1 in
    let s3 = stands_next s (at + length h.originator_text + length h.limit_text) h.count_text h.sequence_text rest end s2 in
    let place : at + length h.originator_text + length h.limit_text + length h.count_text + length h.sequence_text ≡ at + length text =
    omega (arith, ap length h.whole, length-append h.originator_text more1, length-append h.limit_text more2, length-append h.count_text h.sequence_text) in
    rw (
      (originator_field (has flags 128) (width_of flags)).again s at o h.originator_text (more1 ++ rest) end (stands_first s at h.originator_text more1 rest end s0) h.originator_is,
      (octet_field (has flags 64)).again s (at + length h.originator_text) l h.limit_text (more2 ++ rest) end (stands_first s (at + length h.originator_text) h.limit_text more2 rest end s1) h.limit_is,
      (octet_field (has flags 32)).again s (at + length h.originator_text + length h.limit_text) c h.count_text (h.sequence_text ++ rest) end (stands_first s (at + length h.originator_text + length h.limit_text) h.count_text h.sequence_text rest end s2) h.count_is,
      (number_field (has flags 16)).again s (at + length h.originator_text + length h.limit_text + length h.count_text) q h.sequence_text rest end s3 h.sequence_is,
    ) (ap (λ (k : ℕ). Ok (record { originator = o; limit = l; count = c; sequence = q }, k)) place)
