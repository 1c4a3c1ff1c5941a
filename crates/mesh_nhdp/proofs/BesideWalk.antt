-- The 2-hop tuples that are expired go, interface by interface.
use Rattle.mesh_nhdp.proofs.Common.{common_steps, ◌≡◌, ℕ, ◌+◌, ◌<◌, ◌≤◌, sym, ◌∙◌, subst, arith, List, length, Bool, true, false, nat_eq, slice_set, ◌&&◌, TwoHopKey, TwoHop, Base, HasDistinctKeys, Expires, base_of, two_hop_eq}
use Rattle.mesh_nhdp.proofs.AllHears.{written_same, written_other}

pub record GoesOver (now : ℕ) (first sets : List (Base TwoHopKey TwoHop)) (same : Bool) (i : ℕ) : Type 0 where
  pub lengths : length sets ≡ length first
  pub done : (k : ℕ) → k < i → Expires two_hop_eq now (base_of first k) (base_of sets k)
  pub distinct : (k : ℕ) → k < i → HasDistinctKeys two_hop_eq (base_of sets k)
  pub left : (k : ℕ) → i ≤ k → base_of sets k ≡ base_of first k
  pub unchanged : same ≡ true → sets ≡ first
  pub changed : same ≡ false → (k : ℕ) × (k < i) × (length (base_of sets k) < length (base_of first k))

some_of : (n : ℕ) → (n ≡ 0 → ⊥) → 0 < n
some_of n not = grind (arith, common_steps)

pub some_gone : (first same : Bool) (gone : ℕ) → same ≡ (first && nat_eq gone 0) → first ≡ true → same ≡ false → 0 < gone
some_gone first same gone is at h = grind (arith, common_steps, some_of)

module _ (now : ℕ) (first sets : List (Base TwoHopKey TwoHop)) (was after : Base TwoHopKey TwoHop) (same next : Bool) (gone i : ℕ) (G : GoesOver now first sets same i) (within : i < length sets) (here : base_of sets i ≡ was)
    (expires : Expires two_hop_eq now was after) (distinct : HasDistinctKeys two_hop_eq after) (count : gone + length after ≡ length was) (none : gone ≡ 0 → after ≡ was) (is : next ≡ (same && nat_eq gone 0)) where
  was_first : was ≡ base_of first i
  was_first = sym here ∙ G.left i (omega arith)

  one_more_done : (k : ℕ) → k < i + 1 → Expires two_hop_eq now (base_of first k) (base_of (slice_set sets i after) k)
  one_more_done k lt = grind (arith, common_steps, written_other, written_same, was_first)

  one_more_distinct : (k : ℕ) → k < i + 1 → HasDistinctKeys two_hop_eq (base_of (slice_set sets i after) k)
  one_more_distinct k lt = grind (arith, common_steps, written_other, written_same)

  still_same : next ≡ true → slice_set sets i after ≡ first
  still_same h = grind (arith, common_steps)

  has_changed : (b : Bool) → same ≡ b → next ≡ false → (k : ℕ) × (k < i + 1) × (length (base_of (slice_set sets i after) k) < length (base_of first k))
  has_changed false at h =
      let (k, less, fewer) = G.changed at in
      (k, omega (arith, less), subst (λ (b : Base TwoHopKey TwoHop). length b < length (base_of first k)) (sym (written_other sets i k after (λ e. omega (arith, e, less)))) fewer)
  has_changed true at h =
      let some = some_gone same next gone is at h in
      let fewer : length after < length was = omega (arith, some, count) in (
        i,
        omega arith,
        subst (λ (b : Base TwoHopKey TwoHop). length b < length (base_of first i)) (sym (written_same sets i after within)) (subst (λ (b : Base TwoHopKey TwoHop). length after < length b) was_first fewer),
      )

  pub goes_over_one : GoesOver now first (slice_set sets i after) next (i + 1)
  goes_over_one = grind (arith, common_steps, one_more_done, one_more_distinct, still_same, has_changed)
