-- The numbers with a property are listed, one after the other.
use Rattle.mesh_probe.proofs.Common.{ℕ, ◌+◌, ◌<◌, inl, inr, sym, subst, arith, List, [], ◌∷◌, ◌++◌, Contains, get_or, common_steps, cases_eq, Contains-append_left, Contains-push, Contains-push_cases, Contains-get_or, ListsNumbers}
use Rattle.std.proofs.lemmas.List.Quantifiers.{all_pairs_push}

module _ (P : ℕ → Type 0) where
  -- those below a number
  abbrev pub Below : ℕ → ℕ → Type 0
  Below most n = (n < most) × P n

  -- the next number has the property
  pub one_listed : (n : ℕ) (list : List ℕ) → P n → ListsNumbers (Below n) list → ListsNumbers (Below (n + 1)) (list ++ (n ∷ []))
  one_listed n list has l = record {
    each = λ m. (
      λ c. elim (Contains-push_cases list n m c) [
        | inl before ↦ (let (less, holds) = (l.each m).0 before in (omega (arith, less), holds))
        | inr same ↦ (omega (arith, same), subst P same has)
      ],
      λ h. elim (cases_eq m n) [
        | inl same ↦ subst (λ (k : ℕ). Contains (list ++ (n ∷ [])) k) (sym same) (Contains-push list n)
        | inr other ↦ Contains-append_left list (n ∷ []) m ((l.each m).1 (let less = h.0 in omega (arith, less, other), h.1))
      ],
    );
    ascending = all_pairs_push (λ a b. a < b) list n l.ascending (λ k d less. ((l.each (get_or list k d)).0 (Contains-get_or list k d less)).0);
  }

  -- the next number hasn't
  pub one_passed : (n : ℕ) (list : List ℕ) → (P n → ⊥) → ListsNumbers (Below n) list → ListsNumbers (Below (n + 1)) list
  one_passed n list never l = record {
    each = λ m. (
      λ c. (let (less, holds) = (l.each m).0 c in (omega (arith, less), holds)),
      λ h. elim (cases_eq m n) [
        | inl same ↦ absurd (never (subst P same h.1))
        | inr other ↦ (l.each m).1 (let less = h.0 in omega (arith, less, other), h.1)
      ],
    );
    ascending = l.ascending;
  }

  -- none has it from there on
  pub all_listed : (most : ℕ) (list : List ℕ) → ((n : ℕ) → P n → n < most) → ListsNumbers (Below most) list → ListsNumbers P list
  all_listed most list within l = grind (arith, common_steps)
