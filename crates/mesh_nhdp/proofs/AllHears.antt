-- The tuples of the interface that a HELLO came over.
use Rattle.mesh_nhdp.proofs.Common.{◌≡◌, ℕ, ◌+◌, ◌<◌, ◌≤◌, ◌≢◌, inl, inr, sym, ◌∙◌, subst, arith, List, [], length, get_or, get_or-set_same, get_or-set_other, slice_set, cases_lt, Base, base_of, get_or_default}

-- an item is the base of its interface
pub is_base : {K V : Type 0} (bases : List (Base K V)) (i : ℕ) (x : Base K V) → i < length bases → x ≡ get_or bases i x → base_of bases i ≡ x
is_base bases i x lt is = get_or_default bases i [] x lt ∙ sym is

pub written_same : {K V : Type 0} (bases : List (Base K V)) (i : ℕ) (x : Base K V) → i < length bases → base_of (slice_set bases i x) i ≡ x
written_same bases i x lt = get_or-set_same bases i x [] lt

pub written_other : {K V : Type 0} (bases : List (Base K V)) (i j : ℕ) (x : Base K V) → j ≢ i → base_of (slice_set bases i x) j ≡ base_of bases j
written_other bases i j x other = get_or-set_other bases i j x [] other

-- one interface more is changed
pub changed_more : {K V L W : Type 0} (P : ℕ → Base K V → Base K V → Base L W → Base L W → Type 0) (first bases : List (Base K V)) (first_others others : List (Base L W)) (i : ℕ) (was after : Base K V) (was_other after_other : Base L W) →
    i < length bases → i < length others → base_of bases i ≡ was → base_of others i ≡ was_other → ((k : ℕ) → i ≤ k → base_of bases k ≡ base_of first k) → ((k : ℕ) → i ≤ k → base_of others k ≡ base_of first_others k) →
    ((k : ℕ) → k < i → P k (base_of first k) (base_of bases k) (base_of first_others k) (base_of others k)) → P i was after was_other after_other →
    (k : ℕ) → k < i + 1 → P k (base_of first k) (base_of (slice_set bases i after) k) (base_of first_others k) (base_of (slice_set others i after_other) k)
changed_more {K} {V} {L} {W} P first bases first_others others i was after was_other after_other within within_too here here_too left left_too done one k lt = elim (cases_lt k i) [
  | inl less ↦ subst (λ (b : Base K V). P k (base_of first k) b (base_of first_others k) (base_of (slice_set others i after_other) k)) (sym (written_other bases i k after (λ e. omega (arith, e, less))))
      (subst (λ (b : Base L W). P k (base_of first k) (base_of bases k) (base_of first_others k) b) (sym (written_other others i k after_other (λ e. omega (arith, e, less)))) (done k less))
  | inr past ↦
      let at : i ≡ k = omega (arith, past, lt) in
      subst (λ (n : ℕ). P n (base_of first n) (base_of (slice_set bases i after) n) (base_of first_others n) (base_of (slice_set others i after_other) n)) at
      (subst (λ (b : Base K V). P i (base_of first i) b (base_of first_others i) (base_of (slice_set others i after_other) i)) (sym (written_same bases i after within))
      (subst (λ (b : Base L W). P i (base_of first i) after (base_of first_others i) b) (sym (written_same others i after_other within_too))
      (subst (λ (b : Base K V). P i b after (base_of first_others i) after_other) (sym here ∙ left i (omega arith)) (subst (λ (b : Base L W). P i was after b after_other) (sym here_too ∙ left_too i (omega arith)) one))))
]
