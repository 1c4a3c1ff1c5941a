-- Items that fill a range of a frame, one after the other: read, spelled and refused as each of them is.
use Rattle.mesh_tlv.proofs.Common.{common_steps, ◌≡◌, ℕ, zero, suc, ◌+◌, ◌-◌, ◌<◌, ◌≤◌, eqb, List, [], ◌∷◌, ◌++◌, length, Ok, refl, sym, ap, subst, ◌∙◌, arith, append_assoc, MatchResult, slice_range, eqb-true, eqb-false, eq-eqb, ne_eqb, length-append, Reading, refuse, meets_bind, meets_if, Takes, range_length, range_nil, text_is, SpellsItems, ItemsFault, FirstFaultAt, items_at}

-- the text that a reader took from a place, and what it spells
abbrev pub Took : {A : Type 0} → List ℕ → ℕ → ℕ → (A → List ℕ → Type 0) → A × ℕ → Type 0
Took s at end Spells x = (text : List ℕ) × Spells x.0 text × Takes s at text x.1 end

-- What the reader of one item keeps: what it reads is spelled there, what it refuses has its first fault there, it reads
-- again what is spelled, whatever follows, it refuses by the first fault, and no item is empty.
pub record IsReader {A : Type 0} (one : List ℕ → ℕ → ℕ → Reading A) (Spells : A → List ℕ → Type 0) (Fault : List ℕ → ℕ → ℕ → Type 0) : Type 0 where
  pub takes : (s : List ℕ) (at end : ℕ) → at < end → end ≤ length s → MatchResult (one s at end) (Took s at end Spells) (FirstFaultAt Fault s at end)
  pub again : (s : List ℕ) (at end : ℕ) (x : A) (bytes rest : List ℕ) → at ≤ end → end ≤ length s → Spells x bytes → slice_range s at end ≡ bytes ++ rest → one s at end ≡ Ok (x, at + length bytes)
  pub fault_again : (s : List ℕ) (at end distance reason : ℕ) → at ≤ end → end ≤ length s → Fault (slice_range s at end) distance reason → one s at end ≡ refuse (at + distance) reason
  pub some : (x : A) (bytes : List ℕ) → Spells x bytes → 0 < length bytes

-- items that were read up to the end are spelled by the whole range
abbrev pub ItemsTook : {A : Type 0} → List ℕ → ℕ → ℕ → (A → List ℕ → Type 0) → List A × ℕ → Type 0
ItemsTook s at end Spells x = (x.1 ≡ end) × SpellsItems Spells x.0 (slice_range s at end)

module _ {A : Type 0} (one : List ℕ → ℕ → ℕ → Reading A) (Spells : A → List ℕ → Type 0) (Fault : List ℕ → ℕ → ℕ → Type 0) (reader : IsReader one Spells Fault) where
  -- ---- what is read is spelled so, and what is refused has its first fault there

  pub items_take : (n : ℕ) (s : List ℕ) (at end : ℕ) → at ≤ end → end ≤ length s → end - at ≤ n → MatchResult (items_at (one s) n at end) (ItemsTook s at end Spells) (FirstFaultAt (ItemsFault Spells Fault) s at end)
  unfolding items_at
  items_take zero s at end le fits fuel = let e : at ≡ end = omega arith in (e, range_nil s at end (omega arith))
  items_take (suc n) s at end le fits fuel =
      let P = ItemsTook s at end Spells in
      let Q = FirstFaultAt (ItemsFault Spells Fault) s at end in
      meets_if (eqb at end) _ _ P Q
      (λ p. let e : at ≡ end = eqb-true _ _ p in (e, range_nil s at end (omega arith)))
      (λ p.
      let apart : at ≡ end → ⊥ = eqb-false _ _ p in
      let lt : at < end = omega (arith, apart) in
      meets_bind (one s at end) _ _ P _ Q (reader.takes s at end lt fits)
      (λ e h. (
        h.0,
        h.1,
        record {
          before = [];
          front = [];
          rest = slice_range s at end;
          inside = h.0;
          spelled = refl;
          fault = h.2;
          some = omega (arith, range_length s at end fits);
          whole = refl;
          distance_is = omega arith;
        },
      ))
      (λ first t0.
      let more : 0 < length t0.0 = reader.some first.0 t0.0 t0.1 in
      meets_bind (items_at (one s) n first.1 end) _ _ P _ Q (items_take n s first.1 end t0.2.within fits (omega (arith, t0.2.len)))
      (λ e h. (
        length t0.0 + h.0,
        omega (arith, h.1, t0.2.len),
        record {
          before = first.0 ∷ h.2.before;
          front = t0.0 ++ h.2.front;
          rest = h.2.rest;
          inside = h.2.inside;
          spelled = (t0.0, h.2.front, t0.1, h.2.spelled, refl);
          fault = h.2.fault;
          some = h.2.some;
          whole = t0.2.parts ∙ ap (λ (l : List ℕ). t0.0 ++ l) h.2.whole ∙ sym (append_assoc t0.0 h.2.front h.2.rest);
          distance_is = omega (arith, h.2.distance_is, length-append t0.0 h.2.front);
        },
      ))
      (λ others t1. (t1.0, (t0.0, slice_range s first.1 end, t0.1, t1.1, t0.2.parts)))))

  -- ---- what is spelled so is read

  pub items_again : (n : ℕ) (s : List ℕ) (at end : ℕ) (xs : List A) → at ≤ end → end ≤ length s → end - at ≤ n → SpellsItems Spells xs (slice_range s at end) → items_at (one s) n at end ≡ Ok (xs, end)
  unfolding items_at
  items_again zero s at end [] le fits fuel h = let e : at ≡ end = omega arith in ap (λ (k : ℕ). Ok ([], k)) e
  items_again zero s at end (x ∷ xs) le fits fuel h =
      absurd (omega (arith, reader.some x h.0 h.2, ap length h.4, length-append h.0 h.1, range_length s at end fits))
  items_again (suc n) s at end [] le fits fuel h =
      let none : length (slice_range s at end) ≡ 0 = ap length h in
      let e : at ≡ end = omega (arith, range_length s at end fits) in
      rw (eq-eqb at end e) (ap (λ (k : ℕ). Ok ([], k)) e)
  items_again (suc n) s at end (x ∷ xs) le fits fuel h =
      let some : 0 < length h.0 = reader.some x h.0 h.2 in
      let behind = text_is s at end h.0 h.1 le fits h.4 in
      let apart : at ≡ end → ⊥ = λ e. absurd (omega (arith, e, some, behind.0)) in
      rw (
        ne_eqb at end apart,
        reader.again s at end x h.0 h.1 le fits h.2 h.4,
        items_again n s (at + length h.0) end xs behind.0 fits (omega arith) (subst (λ (l : List ℕ). SpellsItems Spells xs l) (sym behind.2) h.3),
      ) refl

  -- ---- a first fault is the one that is answered

  fault_behind : (n : ℕ) (s : List ℕ) (at end inside reason : ℕ) (before : List A) (front rest : List ℕ) → at ≤ end → end ≤ length s → end - at ≤ n → SpellsItems Spells before front → Fault rest inside reason → 0 < length rest → slice_range s at end ≡ front ++ rest → items_at (one s) n at end ≡ refuse (at + (length front + inside)) reason
  unfolding items_at
  fault_behind zero s at end inside reason before front rest le fits fuel h fault some e =
      absurd (omega (arith, ap length e, length-append front rest, range_length s at end fits))
  fault_behind (suc n) s at end inside reason [] front rest le fits fuel h fault some e = grind (arith, common_steps, range_length)
  fault_behind (suc n) s at end inside reason (x ∷ xs) front rest le fits fuel h fault some e =
      let there : slice_range s at end ≡ h.0 ++ (h.1 ++ rest) = e ∙ ap (λ (l : List ℕ). l ++ rest) h.4 ∙ append_assoc h.0 h.1 rest in
      let behind = text_is s at end h.0 (h.1 ++ rest) le fits there in
      let more : 0 < length h.0 = reader.some x h.0 h.2 in
      let apart : at ≡ end → ⊥ = λ same. absurd (omega (arith, same, more, behind.0)) in
      let sum : at + length h.0 + (length h.1 + inside) ≡ at + (length front + inside) = omega (arith, ap length h.4, length-append h.0 h.1) in
      rw (
        ne_eqb at end apart,
        reader.again s at end x h.0 (h.1 ++ rest) le fits h.2 there,
        fault_behind n s (at + length h.0) end inside reason xs h.1 rest behind.0 fits (omega arith) h.3 fault some behind.2,
        sum,
      ) refl

  pub items_fault : (n : ℕ) (s : List ℕ) (at end distance reason : ℕ) → at ≤ end → end ≤ length s → end - at ≤ n → ItemsFault Spells Fault (slice_range s at end) distance reason → items_at (one s) n at end ≡ refuse (at + distance) reason
  items_fault n s at end distance reason le fits fuel h = grind (arith, common_steps, fault_behind)
