-- Tuples that end while the others stay.
use Rattle.mesh_nbrs.proofs.Common.{arith, common_steps, ◌≡◌, ℕ, Bool, true, false, Option, Some, None, ◌⊎◌, inl, inr, refl, sym, subst, ◌∙◌, IfNone, Base, find, SetsOnly}

-- what follows where nothing is given
pub if_none_so : {A P Q : Type 0} (o : Option A) → (P → Q) → IfNone o P → IfNone o Q
if_none_so o so h = grind (arith, common_steps)

module _ {K V : Type 0} (eq : K → K → Bool) (ends : K → V → Type 0) (before now : Base K V) where
  -- a key has what it had, or what it had ended
  abbrev pub HasEnded : K → Type 0
  HasEnded q = (find eq now q ≡ find eq before q) ⊎ ((find eq now q ≡ None) × (e : V × ℕ) × (find eq before q ≡ Some e) × ends q e.0)

-- one more ends
pub ended_more : {K V : Type 0} (eq : K → K → Bool) (exact : (a b : K) → eq a b ≡ true → a ≡ b) (ends : K → V → Type 0) (before now after : Base K V) (key : K) (e : V × ℕ)
    → ((q : K) → HasEnded eq ends before now q) → find eq now key ≡ Some e → ends key e.0 → SetsOnly eq now after key None → (q : K) → HasEnded eq ends before after q
ended_more {K} {V} eq exact ends before now after key e each found end sets q = by_key (eq key q) refl where
  by_key : (b : Bool) → eq key q ≡ b → HasEnded eq ends before after q
  by_key false is =
      let stays : find eq after q ≡ find eq now q = sets q ∙ rw is refl in
      elim (each q) [ inl same ↦ inl (stays ∙ same) | inr gone ↦ inr (stays ∙ gone.0, gone.1, gone.2, gone.3) ]
  by_key true is =
      let none : find eq after q ≡ None = sets q ∙ rw is refl in
      let here : find eq now q ≡ Some e = subst (λ (k : K). find eq now k ≡ Some e) (exact key q is) found in
      let ends_here : ends q e.0 = subst (λ (k : K). ends k e.0) (exact key q is) end in
      elim (each q) [ inl same ↦ inr (none, e, sym same ∙ here, ends_here) | inr gone ↦ inr (none, gone.1, gone.2, gone.3) ]
