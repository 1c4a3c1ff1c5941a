-- Blocks, which are a length of 16 bits and items that fill it: read, spelled and refused as their items are.
use Rattle.mesh_tlv.proofs.Common.{common_steps, ◌≡◌, ℕ, ◌+◌, ◌-◌, ◌≤◌, ltb, List, ◌++◌, length, Ok, Err, refl, sym, ap, subst, ◌∙◌, arith, append_assoc, MatchResult, slice_range, ltb-false, ltb-true, le-ltb, lt-ltb, length-append, MatchResult-weaker, Refusal, SpellsShort, Reading, refuse, short_at, meets_bind, meets_if, Takes, takes_both, takes_range, range_length, text_is, short_takes, short_again, short_cut, two_long, SpellsItems, ItemsFault, FirstFaultAt, items_at, range_at, block_at, SpellsTlvs, TlvsFault, block_cut, block_long, in_block}
use Rattle.mesh_tlv.proofs.Items.{IsReader, ItemsTook, items_take, items_again, items_fault}

-- a block that was read stands between the places
abbrev pub BlockTook : {A : Type 0} → List ℕ → ℕ → ℕ → (A → List ℕ → Type 0) → List A × ℕ → Type 0
BlockTook s at end Spells x = (at ≤ x.1) × (x.1 ≤ end) × SpellsTlvs Spells x.0 (slice_range s at x.1)

module _ {A : Type 0} (one : List ℕ → ℕ → ℕ → Reading A) (Spells : A → List ℕ → Type 0) (Fault : List ℕ → ℕ → ℕ → Type 0) (reader : IsReader one Spells Fault) where
  -- ---- what is read is spelled so, and what is refused has its first fault there

  range_takes : (s : List ℕ) (at end : ℕ) → at ≤ end → end ≤ length s → MatchResult (range_at s at end) (λ x. (len : List ℕ) × SpellsShort (x.1 - x.0) len × Takes s at len x.0 end × (x.0 ≤ x.1) × (x.1 ≤ end)) (FirstFaultAt (TlvsFault Spells Fault) s at end)
  unfolding range_at
  range_takes s at end le fits =
      let P = λ (x : ℕ × ℕ). (len : List ℕ) × SpellsShort (x.1 - x.0) len × Takes s at len x.0 end × (x.0 ≤ x.1) × (x.1 ≤ end) in
      let Q = FirstFaultAt (TlvsFault Spells Fault) s at end in
      let here : at ≡ at + 0 = omega arith in
      meets_bind (short_at 1 s at end) _ _ P _ Q (short_takes 1 s at end fits)
      (λ e h. (0, ap (λ (r : Refusal). r.place) h.0 ∙ here, subst (λ (n : ℕ). TlvsFault Spells Fault (slice_range s at end) 0 n) (sym (ap (λ (r : Refusal). r.reason) h.0)) (block_cut h.1)))
      (λ x t. meets_if (ltb (end - x.1) x.0) _ _ P Q
      (λ p. (0, here, block_long x.0 t.0 (slice_range s x.1 end) t.1 t.2.parts (omega (arith, ltb-true _ _ p, range_length s x.1 end fits))))
      (λ p.
      let n : x.0 ≡ x.1 + x.0 - x.1 = omega arith in
      (t.0, subst (λ (k : ℕ). SpellsShort k t.0) n t.1, t.2, omega arith, omega (arith, ltb-false _ _ p, t.2.within))))

  pub block_takes : (s : List ℕ) (at end : ℕ) → at ≤ end → end ≤ length s → MatchResult (block_at one s at end) (BlockTook s at end Spells) (FirstFaultAt (TlvsFault Spells Fault) s at end)
  unfolding block_at
  block_takes s at end le fits =
      let P = BlockTook s at end Spells in
      let Q = FirstFaultAt (TlvsFault Spells Fault) s at end in
      meets_bind (range_at s at end) _ _ P Q Q (range_takes s at end le fits) (λ e h. h)
      (λ range t.
      let start : ℕ = range.0 in
      let stop : ℕ = range.1 in
      let text : List ℕ = slice_range s start stop in
      let within : stop ≤ length s = omega (arith, t.4) in
      let size : length text ≡ stop - start = range_length s start stop within in
      let len : SpellsShort (length text) t.0 = subst (λ (k : ℕ). SpellsShort k t.0) (sym size) t.1 in
      let two : length t.0 ≡ 2 = two_long (stop - start) t.0 t.1 in
      let stopped : start + (stop - start) ≡ stop = omega (arith, t.3) in
      let taken = takes_both s at t.0 start (slice_range s start (start + (stop - start))) (start + (stop - start)) end t.2 (takes_range s start (stop - start) end (omega (arith, t.3, t.4)) fits) in
      let whole : slice_range s at end ≡ (t.0 ++ text) ++ slice_range s stop end = subst (λ (k : ℕ). slice_range s at end ≡ (t.0 ++ slice_range s start k) ++ slice_range s k end) stopped taken.parts in
      MatchResult-weaker (items_at (one s) (stop - start) start stop) {P = ItemsTook s start stop Spells} {P' = P} {Q = FirstFaultAt (ItemsFault Spells Fault) s start stop} {Q' = Q} (items_take one Spells Fault reader (stop - start) s start stop t.3 within (omega arith))
      (λ x u.
      let behind = text_is s at end (t.0 ++ text) (slice_range s stop end) le fits whole in
      let place : at + length (t.0 ++ text) ≡ x.1 = omega (arith, u.0, length-append t.0 text, size, t.2.len, t.3) in (
        omega (arith, u.0, t.2.len, t.3),
        omega (arith, u.0, t.4),
        (t.0, text, len, u.1, subst (λ (k : ℕ). slice_range s at k ≡ t.0 ++ text) place behind.1),
      ))
      (λ e h. (
        2 + h.0,
        omega (arith, h.1, t.2.len, two),
        in_block h.0 e.reason t.0 text (slice_range s stop end) len h.2 (whole ∙ append_assoc t.0 text (slice_range s stop end)),
      )))

  -- ---- what is spelled so is read, whatever follows

  range_again : (s : List ℕ) (at end n : ℕ) (len text rest : List ℕ) → at ≤ end → end ≤ length s → SpellsShort n len → length text ≡ n → slice_range s at end ≡ len ++ (text ++ rest) → range_at s at end ≡ Ok (at + 2, at + 2 + n)
  unfolding range_at
  range_again s at end n len text rest le fits h size e =
      let whole : length (slice_range s at end) ≡ length len + (length text + length rest) = ap length e ∙ length-append len (text ++ rest) ∙ ap (λ (k : ℕ). length len + k) (length-append text rest) in
      rw (short_again 1 s at end n len (text ++ rest) fits h e, le-ltb (end - (at + 2)) n (omega (arith, range_length s at end fits, two_long n len h))) refl

  -- the items of a block stand behind its length
  items_stand : (s : List ℕ) (at end n : ℕ) (len text rest : List ℕ) → at ≤ end → end ≤ length s → SpellsShort n len → slice_range s at end ≡ len ++ (text ++ rest) → (at + 2 + length text ≤ end) × (slice_range s (at + 2) (at + 2 + length text) ≡ text)
  items_stand s at end n len text rest le fits h e =
      let two : length len ≡ 2 = two_long n len h in
      let behind = text_is s at end len (text ++ rest) le fits e in
      let start : at + length len ≡ at + 2 = omega (arith, two) in
      let after : slice_range s (at + 2) end ≡ text ++ rest = subst (λ (k : ℕ). slice_range s k end ≡ text ++ rest) start behind.2 in
      let inside = text_is s (at + 2) end text rest (omega (arith, behind.0, two)) fits after in
      (inside.0, inside.1)

  pub block_again : (s : List ℕ) (at end : ℕ) (xs : List A) (bytes rest : List ℕ) → at ≤ end → end ≤ length s → SpellsTlvs Spells xs bytes → slice_range s at end ≡ bytes ++ rest → block_at one s at end ≡ Ok (xs, at + length bytes)
  unfolding block_at
  block_again s at end xs bytes rest le fits h e =
      let n : ℕ = length h.1 in
      let there : slice_range s at end ≡ h.0 ++ (h.1 ++ rest) = e ∙ ap (λ (l : List ℕ). l ++ rest) h.4 ∙ append_assoc h.0 h.1 rest in
      let two : length h.0 ≡ 2 = two_long n h.0 h.2 in
      let inside = items_stand s at end n h.0 h.1 rest le fits h.2 there in
      let size : at + 2 + n ≡ at + length bytes = omega (arith, ap length h.4, length-append h.0 h.1, two) in
      rw (
        range_again s at end n h.0 h.1 rest le fits h.2 refl there,
        items_again one Spells Fault reader (at + 2 + n - (at + 2)) s (at + 2) (at + 2 + n) xs (omega arith) (omega (arith, inside.0)) (omega arith) (subst (λ (l : List ℕ). SpellsItems Spells xs l) (sym inside.1) h.3),
        size,
      ) refl

  -- a block that was put behind other octets
  -- ---- a first fault is the one that is answered

  block_fault : (s : List ℕ) (at end distance reason : ℕ) → at ≤ end → end ≤ length s → TlvsFault Spells Fault (slice_range s at end) distance reason → block_at one s at end ≡ refuse (at + distance) reason
  unfolding block_at range_at
  block_fault s at end distance reason le fits (block_cut cut) = let here : at ≡ at + 0 = omega arith in rw (short_cut 1 s at end fits cut) (ap (λ (k : ℕ). refuse {A = List A × ℕ} k 1) here)
  block_fault s at end distance reason le fits (block_long n len rest h e lt) =
      let here : at ≡ at + 0 = omega arith in
      let whole : length (slice_range s at end) ≡ length len + length rest = ap length e ∙ length-append len rest in
      rw (short_again 1 s at end n len rest fits h e, lt-ltb (end - (at + 2)) n (omega (arith, range_length s at end fits, two_long n len h))) (ap (λ (k : ℕ). refuse {A = List A × ℕ} k 4) here)
  block_fault s at end distance reason le fits (in_block inside why len text rest h fault e) =
      let n : ℕ = length text in
      let there = items_stand s at end n len text rest le fits h e in
      let sum : at + 2 + inside ≡ at + (2 + inside) = omega arith in
      rw (
        range_again s at end n len text rest le fits h refl e,
        items_fault one Spells Fault reader (at + 2 + n - (at + 2)) s (at + 2) (at + 2 + n) inside why (omega arith) (omega (arith, there.0)) (omega arith) (subst (λ (l : List ℕ). ItemsFault Spells Fault l inside why) (sym there.1) fault),
        sum,
      ) refl

  pub block_refuses : (s : List ℕ) (at end : ℕ) (refusal : Refusal) → at ≤ end → end ≤ length s → FirstFaultAt (TlvsFault Spells Fault) s at end refusal → block_at one s at end ≡ Err refusal
  block_refuses s at end refusal le fits h = grind (arith, common_steps, block_fault)
