-- The number of the first of several tests that is passed.
use Rattle.mesh_wire.proofs.Common.{◌≡◌, ℕ, ◌≤◌, inl, inr, refl, ◌∙◌, ap, subst, arith, Bool, true, false, List, [], ◌∷◌, Contains, Option, Some, None, slice_get, contains_at, contains_cases, contains_none as none_in, some_equal, first_passed}

-- numbers rise, from that one on
abbrev pub Rise : ℕ → List (Bool × ℕ) → Type 0
Rise n [] = Unit {0}
Rise n ((b, k) ∷ tests) = (n ≤ k) × Rise k tests

-- each test gives that of its number
abbrev pub Give : (ℕ → Type 0) → List (Bool × ℕ) → Type 0
Give P [] = Unit {0}
Give P ((b, k) ∷ tests) = (b ≡ true → P k) × Give P tests

-- no test is passed
abbrev pub Fail : List (Bool × ℕ) → Type 0
Fail [] = Unit {0}
Fail ((b, k) ∷ tests) = (b ≡ false) × Fail tests

-- that number or a lower one
abbrev pub AtMost : Option ℕ → ℕ → Type 0
AtMost o k = (n : ℕ) × (o ≡ Some n) × (n ≤ k)

pub given : (P : ℕ → Type 0) (tests : List (Bool × ℕ)) (n : ℕ) → first_passed tests ≡ Some n → Give P tests → P n
given P [] n e h = cc
given P ((true, k) ∷ tests) n e (here, rest) = subst P (some_equal k n e) (here refl)
given P ((false, k) ∷ tests) n e (here, rest) = given P tests n e rest

pub failed : (tests : List (Bool × ℕ)) → first_passed tests ≡ None → Fail tests
failed [] e = tt
failed ((true, k) ∷ tests) e = cc
failed ((false, k) ∷ tests) e = (refl, failed tests e)

above : (n : ℕ) (tests : List (Bool × ℕ)) → Rise n tests → (t : Bool × ℕ) → Contains tests t → n ≤ t.1
above n [] up t has = absurd (none_in t has)
above n ((b, k) ∷ tests) (le, up) t has = elim (contains_cases (b, k) tests t has) [
  | inl e ↦ omega (arith, le, ap (λ (s : Bool × ℕ). s.1) e)
  | inr later ↦ omega (arith, le, above k tests up t later)
]

at_most : (n : ℕ) (tests : List (Bool × ℕ)) → Rise n tests → (t : Bool × ℕ) → Contains tests t → t.0 ≡ true → AtMost (first_passed tests) t.1
at_most n [] up t has e = absurd (none_in t has)
at_most n ((true, k) ∷ tests) (le, up) t has e = elim (contains_cases (true, k) tests t has) [
  | inl f ↦ (k, refl, omega (arith, ap (λ (s : Bool × ℕ). s.1) f))
  | inr later ↦ (k, refl, above k tests up t later)
]
at_most n ((false, k) ∷ tests) (le, up) t has e = elim (contains_cases (false, k) tests t has) [
  | inl f ↦ absurd (let g : false ≡ true = ap (λ (s : Bool × ℕ). s.0) f ∙ e in cc)
  | inr later ↦ at_most k tests up t later e
]

pub passed : (n : ℕ) (tests : List (Bool × ℕ)) → Rise n tests → (place : ℕ) (b : Bool) (k : ℕ) → slice_get tests place ≡ Some (b, k) → b ≡ true → AtMost (first_passed tests) k
passed n tests up place b k e on = at_most n tests up (b, k) (contains_at tests place (b, k) e) on

pub at_most_more : (o : Option ℕ) (j k : ℕ) → j ≤ k → AtMost o j → AtMost o k
at_most_more o j k le (n, e, below) = (n, e, omega (arith, le, below))
