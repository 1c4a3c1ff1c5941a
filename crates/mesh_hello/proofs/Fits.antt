-- How many addresses a list can have.
use Rattle.mesh_hello.proofs.Common.{◌≡◌, ℕ, suc, ◌≤◌, ◌↔◌, inl, inr, refl, sym, ap, arith, List, [], ◌∷◌, length, Contains, Some, IsTrue, Bool, true, false, cond, IsSome, ◌||◌, nat_lt, IsEquivalence, IsDistinct, list_any, lookup, false≢true, lt-ltb, ltb-true, or_cases as either, list_any-from_Contains, Addr4, IsAscending, AreMoreThan, addr_equiv, same_addr}
use Rattle.std.proofs.lemmas.Map.Steps.{length-le_from_keys}
use Rattle.mesh_hello.proofs.Sorted.{distinct_ascending}

-- a list as a map of each element to itself
entries : {A : Type 0} → List A → List (A × A)
entries [] = []
entries (a ∷ rest) = (a, a) ∷ entries rest

length_entries : {A : Type 0} (xs : List A) → length (entries xs) ≡ length xs
unfolding entries
length_entries [] = refl
length_entries (a ∷ rest) = ap suc (length_entries rest)

-- a test of equality finds an element
pub any_contains : {A : Type 0} {eq : A → A → Bool} → ((a b : A) → eq a b ≡ true → a ≡ b) → (xs : List A) (a : A) → list_any (eq a) xs ≡ true → Contains xs a
any_contains same [] a h = absurd (false≢true h)
any_contains {eq = eq} same (x ∷ xs) a h = elim (either (eq a x) (list_any (eq a) xs) h) [
  | inl is ↦ (0, omega arith, sym (same a x is))
  | inr later ↦ let c = any_contains same xs a later in (suc c.0, omega (arith, c.1), c.2)
]

found : {A : Type 0} (eq : A → A → Bool) (xs : List A) (a : A) → list_any (eq a) xs ≡ true → IsSome (lookup (eq a) (entries xs))
unfolding entries
found eq [] a h = absurd (false≢true h)
found {A} eq (x ∷ xs) a h = step (eq a x) (λ k. found eq xs a k) h
  where
    step : (b : Bool) → (list_any (eq a) xs ≡ true → IsSome (lookup (eq a) (entries xs))) → (b || list_any (eq a) xs) ≡ true → IsSome (cond b (Some x) (lookup (eq a) (entries xs)))
    step true more h = refl
    step false more h = more h

-- distinct elements of a list are no more than it has
pub distinct_fits : {A : Type 0} {eq : A → A → Bool} → IsEquivalence eq → ((a b : A) → eq a b ≡ true → a ≡ b) → (some xs : List A) → IsDistinct eq some →
    ((a : A) → Contains some a → Contains xs a) → length some ≤ length xs
distinct_fits {eq = eq} equiv same some xs distinct within =
    let fits = length-le_from_keys equiv some (entries xs) distinct (λ a h. found eq xs a (list_any-from_Contains equiv a xs (within a (any_contains same some a h)))) in
    let count = length_entries xs in omega (arith, fits, count)

-- a list in ascending order of all that have the property tells whether they are more than so many
pub are_more : (most : ℕ) (P : Addr4 → Type 0) (addrs : List Addr4) → IsAscending addrs → ((a : Addr4) → Contains addrs a ↔ P a) → IsTrue (nat_lt most (length addrs)) ↔ AreMoreThan most P
are_more most P addrs up are = (
  λ h. (addrs, distinct_ascending addrs up, (λ a c. (are a).0 c), ltb-true most (length addrs) h),
  λ more. let (some, distinct, all, many) = more in
      let fits = distinct_fits addr_equiv same_addr some addrs distinct (λ a c. (are a).1 (all a c)) in
      lt-ltb most (length addrs) (omega (arith, fits, many)),
)
