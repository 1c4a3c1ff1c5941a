-- The tuples of a link go, from the last place on.
use Rattle.mesh_nbrs.proofs.Common.{◌≡◌, ◌⊎◌, inl, inr, refl, sym, subst, ◌∙◌, ℕ, ◌+◌, ◌≤◌, arith, Bool, true, false, cond, Option, Some, None, length, length-take, get_or, ◌-◌, slice_get, slice_set, swap_remove, cases_order, false≢true, LinkKey, TwoHopKey, TwoHop, Base, find, HasDistinctKeys, SetsOnly, link_eq, two_hop_eq, same_two_hop, two_hop_equiv, swapped_at, swapped_out, walked, DropsLink}

-- from a place on no tuple is one of the link, and the tuples that have gone are
pub record Dropping (link : LinkKey) (first now : Base TwoHopKey TwoHop) (place : ℕ) : Type 0 where
  pub distinct : HasDistinctKeys two_hop_eq now
  pub left : (q : TwoHopKey) → (find two_hop_eq now q ≡ find two_hop_eq first q) ⊎ ((link_eq q.link link ≡ true) × (find two_hop_eq now q ≡ None))
  pub behind : (i : ℕ) (e : TwoHopKey × (TwoHop × ℕ)) → place ≤ i → slice_get now i ≡ Some e → link_eq e.0.link link ≡ false
  pub shorter : length now ≤ length first

module _ (link : LinkKey) (first now : Base TwoHopKey TwoHop) (place : ℕ) where
  module _ (dropping : Dropping link first now place) where
    -- a tuple of another link stays
    pub stays : (at : ℕ) → place ≤ at + 1 → ((e : TwoHopKey × (TwoHop × ℕ)) → slice_get now at ≡ Some e → link_eq e.0.link link ≡ false) → Dropping link first now at
    stays at next other = record { distinct = dropping.distinct; left = dropping.left; behind = behind; shorter = dropping.shorter } where
      behind : (i : ℕ) (e : TwoHopKey × (TwoHop × ℕ)) → at ≤ i → slice_get now i ≡ Some e → link_eq e.0.link link ≡ false
      behind i e le there = elim (cases_order at i) [
        | inl same ↦ other e (subst (λ (k : ℕ). slice_get now k ≡ Some e) (sym same) there)
        | inr (inl below) ↦ dropping.behind i e (omega (arith, next, below)) there
        | inr (inr above) ↦ absurd (omega (arith, le, above))
      ]

    -- a tuple of the link goes, and the last one comes to its place
    goes : (at : ℕ) (new : Base TwoHopKey TwoHop) (e : TwoHopKey × (TwoHop × ℕ)) → place ≤ at + 1 → slice_get now at ≡ Some e → link_eq e.0.link link ≡ true → new ≡ swap_remove now at e → Dropping link first new at
    goes at new e next there of_link is = subst (λ (b : Base TwoHopKey TwoHop). Dropping link first b at) (sym is) (record {
      distinct = out.0;
      left = λ q. left q (two_hop_eq e.0 q) refl;
      behind = behind;
      shorter = omega (arith, dropping.shorter, length-take (length now - 1) (slice_set now at (get_or now (length now - 1) e)));
    }) where
      out : HasDistinctKeys two_hop_eq (swap_remove now at e) × SetsOnly two_hop_eq now (swap_remove now at e) e.0 None
      out = swapped_out two_hop_equiv now at e dropping.distinct there

      left : (q : TwoHopKey) (b : Bool) → two_hop_eq e.0 q ≡ b
          → (find two_hop_eq (swap_remove now at e) q ≡ find two_hop_eq first q) ⊎ ((link_eq q.link link ≡ true) × (find two_hop_eq (swap_remove now at e) q ≡ None))
      left q true same = inr (subst (λ (k : TwoHopKey). link_eq k.link link ≡ true) (same_two_hop e.0 q same) of_link, out.1 q ∙ rw same refl)
      left q false same = let stood : find two_hop_eq (swap_remove now at e) q ≡ find two_hop_eq now q = out.1 q ∙ rw same refl in elim (dropping.left q) [
        | inl was ↦ inl (stood ∙ was)
        | inr gone ↦ inr (gone.0, stood ∙ gone.1)
      ]

      behind : (i : ℕ) (x : TwoHopKey × (TwoHop × ℕ)) → at ≤ i → slice_get (swap_remove now at e) i ≡ Some x → link_eq x.0.link link ≡ false
      behind i x le found = let (j, stood, further) = swapped_at now at e i x found in dropping.behind j x (omega (arith, next, further le)) stood

    -- what a test of that place found to be a tuple of the link goes
    pub takes : (at : ℕ) (new : Base TwoHopKey TwoHop) (found : Bool) → place ≤ at + 1 → ((e : TwoHopKey × (TwoHop × ℕ)) → slice_get now at ≡ Some e → found ≡ link_eq e.0.link link)
        → (slice_get now at ≡ None → found ≡ false) → found ≡ true → ((e : TwoHopKey × (TwoHop × ℕ)) → slice_get now at ≡ Some e → new ≡ swap_remove now at e) → Dropping link first new at
    takes at new found next there past is_found removed = by_entry (slice_get now at) refl where
      by_entry : (o : Option (TwoHopKey × (TwoHop × ℕ))) → slice_get now at ≡ o → Dropping link first new at
      by_entry None is = absurd (false≢true (sym (past is) ∙ is_found))
      by_entry (Some e) is = goes at new e next is (sym (there e is) ∙ is_found) (removed e is)

    -- where no place is left, all tuples of the link have gone
    pub all_dropped : place ≤ 0 → DropsLink link first now
    all_dropped end q = by_link (link_eq q.link link) refl where
      none : (o : Option (TwoHop × ℕ)) → find two_hop_eq now q ≡ o → link_eq q.link link ≡ true → o ≡ None
      none None is h = refl
      none (Some entry) is h =
          let other : link_eq q.link link ≡ false = walked same_two_hop now (λ e. link_eq e.0.link link ≡ false) (λ i e _ at. dropping.behind i e (omega (arith, end)) at) q entry is in
          absurd (false≢true (sym other ∙ h))

      by_link : (b : Bool) → link_eq q.link link ≡ b → find two_hop_eq now q ≡ cond b None (find two_hop_eq first q)
      by_link true is = none (find two_hop_eq now q) refl is
      by_link false is = elim (dropping.left q) [
        | inl was ↦ was
        | inr gone ↦ absurd (false≢true (sym is ∙ gone.0))
      ]
