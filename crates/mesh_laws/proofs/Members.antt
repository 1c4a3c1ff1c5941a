-- Items of short lists, and of lists that are made of others, and bases of one tuple and of none.
use Rattle.mesh_laws.proofs.Common.{arith, common_steps, ◌≡◌, ℕ, zero, suc, Bool, inl, inr, ap, subst, sym, ◌∙◌, List, [], ◌∷◌, map, Contains, Base, Has, HasDistinctKeys, base_of, single_distinct, empty_distinct, contains_tail as there, contains_cases, contains_none as none_of, contains_head as here}

-- each item of a list has the property
abbrev pub Each : {A : Type 0} → (A → Type 0) → List A → Type 0
Each P [] = Unit {0}
Each P (x ∷ xs) = P x × Each P xs

pub each : {A : Type 0} (P : A → Type 0) (xs : List A) → Each P xs → (a : A) → Contains xs a → P a
each P [] all a c = absurd (none_of a c)
each P (x ∷ xs) all a c = grind (arith, common_steps, contains_cases)

-- what stands in a list that is made of another
pub unmapped : {A B : Type 0} (f : A → B) (xs : List A) (b : B) → Contains (map f xs) b → (a : A) × Contains xs a × (b ≡ f a)
unmapped f [] b c = absurd (none_of b c)
unmapped f (x ∷ xs) b c = elim (contains_cases (f x) (map f xs) b c) [
  | inl e ↦ (x, here x xs, sym e)
  | inr more ↦ let (a, stands, is) = unmapped f xs b more in (a, there x xs a stands, is)
]

-- the same of both parts gives the same
pub both_same : {A B C : Type 0} (f : A → B → C) (a b : A) (c d : B) → a ≡ b → c ≡ d → f a c ≡ f b d
both_same f a b c d e g = ap (λ x. f x c) e ∙ ap (λ y. f b y) g

-- a tuple by the same key and the same record
pub has_same : {K V : Type 0} (base : Base K V) (k l : K) (v w : V) → k ≡ l → v ≡ w → Has base k v → Has base l w
has_same base k l v w e f has = subst (λ b. Has base l b) f (subst (λ b. Has base b v) e has)

-- the bases of one interface have distinct keys: a base of one tuple, and one of none
pub single_base : {K V : Type 0} (eq : K → K → Bool) (k : K) (e : V × ℕ) (i : ℕ) → HasDistinctKeys eq (base_of (((k, e) ∷ []) ∷ []) i)
single_base eq k e zero = single_distinct eq k e
single_base {V = V} eq k e (suc i) = empty_distinct V eq

pub empty_base : {K : Type 0} (V : Type 0) (eq : K → K → Bool) (i : ℕ) → HasDistinctKeys {K = K} {V = V} eq (base_of ([] ∷ []) i)
empty_base V eq zero = empty_distinct V eq
empty_base V eq (suc i) = empty_distinct V eq
