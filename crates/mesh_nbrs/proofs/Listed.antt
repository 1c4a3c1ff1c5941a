-- Whether a key is listed, by a test and by membership.
use Rattle.mesh_nbrs.proofs.Common.{common_steps, ◌≡◌, ℕ, zero, suc, take, Bool, true, false, List, [], ◌∷◌, Contains, refl, sym, ◌∙◌, subst, arith, ◌&&◌, list_any, IsEquivalence, Contains-append_right, list_any_at}

module _ {K : Type 0} {eq : K → K → Bool} where
  -- a test that passes tells a member
  pub contains_of : (exact : (a b : K) → eq a b ≡ true → a ≡ b) (xs : List K) (a : K) → list_any (λ x. eq x a) xs ≡ true → Contains xs a
  contains_of exact [] a h = absurd cc
  contains_of exact (x ∷ xs) a h = by_head (eq x a) refl (λ k. Contains-append_right (x ∷ []) xs a (contains_of exact xs a k)) where
    by_head : (b : Bool) → eq x a ≡ b → (list_any (λ y. eq y a) xs ≡ true → Contains (x ∷ xs) a) → Contains (x ∷ xs) a
    by_head true is behind = let here : Contains (x ∷ xs) x = (0, omega arith, refl) in subst (λ (k : K). Contains (x ∷ xs) k) (exact x a is) here
    by_head false is behind = behind (rw is at h)

  -- and so back
  pub listed_of : IsEquivalence eq → (xs : List K) (a : K) → Contains xs a → list_any (λ x. eq x a) xs ≡ true
  listed_of laws xs a has = list_any_at (λ x. eq x a) xs has.0 a has.1 (rw (has.2) (laws.refl a))

  -- and none where it doesn't pass
  pub unlisted_of : IsEquivalence eq → (xs : List K) (a : K) → list_any (λ x. eq x a) xs ≡ false → Contains xs a → ⊥
  unlisted_of laws xs a not_listed has = absurd (let clash : true ≡ false = sym (listed_of laws xs a has) ∙ not_listed in cc)

  -- a test of the listed keys that a key is, where it passes
  pub listed_where : (exact : (a b : K) → eq a b ≡ true → a ≡ b) (test : K → Bool) (xs : List K) (a : K) → list_any (λ x. eq x a && test x) xs ≡ (list_any (λ x. eq x a) xs && test a)
  listed_where exact test [] a = refl
  listed_where exact test (x ∷ xs) a = grind (arith, common_steps, (listed_where exact test xs a))

-- what passes a test, where something does
pub found_of : {A : Type 0} (test : A → Bool) (xs : List A) → list_any test xs ≡ true → (x : A) × Contains xs x × (test x ≡ true)
found_of test [] h = absurd cc
found_of {A} test (x ∷ xs) h = by_head (test x) refl (found_of test xs) where
  by_head : (b : Bool) → test x ≡ b → (list_any test xs ≡ true → (y : A) × Contains xs y × (test y ≡ true)) → (y : A) × Contains (x ∷ xs) y × (test y ≡ true)
  by_head true is behind = (x, (0, omega arith, refl), is)
  by_head false is behind = let y = behind (rw is at h) in (y.0, Contains-append_right (x ∷ []) xs y.0 y.1, y.2)

-- what passes at the front of a list passes
pub any_take : {A : Type 0} (test : A → Bool) (i : ℕ) (xs : List A) → list_any test (take i xs) ≡ true → list_any test xs ≡ true
any_take test zero xs h = absurd cc
any_take test (suc i) [] h = absurd cc
any_take {A} test (suc i) (x ∷ xs) h = grind (arith, common_steps, (any_take test i xs))
