-- Lists of all that has a property, and statements that hold or don't.
use Rattle.mesh_bases.proofs.Common.{common_steps, ◌≡◌, ℕ, zero, suc, ◌<◌, ◌≤◌, ◌⊎◌, inl, inr, refl, sym, subst, arith, Bool, true, List, [], ◌∷◌, Contains, Option, Some, None, cases_lt, contains_cases, contains_head, contains_none, contains_tail, contains_flat_map, contains_flat_map_cases, IsListed, listed_by, listed_one}
use Rattle.std.specs.List.{flat_map}

-- Statements that hold or don't

abbrev pub HoldsOrNot : Type 0 → Type 0
HoldsOrNot D = D ⊎ (D → ⊥)

pub opposite_or_not : {D : Type 0} → HoldsOrNot D → HoldsOrNot (D → ⊥)
opposite_or_not h0 = grind (arith, common_steps)

pub both_or_not : {D E : Type 0} → HoldsOrNot D → HoldsOrNot E → HoldsOrNot (D × E)
both_or_not h0 h1 = grind (arith, common_steps)

pub true_or_not : (b : Bool) → HoldsOrNot (b ≡ true)
true_or_not b = grind (arith, common_steps)

pub upto_or_not : (a b : ℕ) → HoldsOrNot (a ≤ b)
upto_or_not a b = elim (cases_lt b a) [ inl more ↦ inr (λ upto. omega arith) | inr upto ↦ inl upto ]

-- Lists

pub list_elements : {X : Type 0} (xs : List X) → IsListed (Contains xs)
list_elements xs = (xs, λ x. (λ has. has, λ has. has))

pub list_value : {X : Type 0} (o : Option X) → IsListed (λ x. o ≡ Some x)
list_value None = ([], λ x. (λ has. absurd (contains_none x has), λ is. absurd cc))
list_value {X} (Some y) = listed_by (λ (x : X). (λ is. cc, λ is. cc)) (listed_one y)

pub list_below : (n : ℕ) → IsListed (λ i. i < n)
list_below zero = ([], λ i. (λ has. absurd (contains_none i has), λ less. absurd (omega arith)))
list_below (suc n) =
    let (xs, are) = list_below n in (
      n ∷ xs,
      λ i. (
        λ has. elim (contains_cases n xs i has) [
          | inl same ↦ omega arith
          | inr later ↦ let less : i < n = (are i).0 later in omega arith
        ],
        λ less. elim (cases_lt i n) [
          | inl lower ↦ contains_tail n xs i ((are i).1 lower)
          | inr upto ↦ let same : n ≡ i = omega arith in subst (λ (j : ℕ). Contains (n ∷ xs) j) same (contains_head n xs)
        ],
      ),
    )

-- where a statement holds
pub list_where : {X D : Type 0} {P : X → Type 0} → HoldsOrNot D → IsListed P → IsListed (λ x. D × P x)
list_where h0 listed = grind (arith, common_steps, listed_by, contains_none)

-- of each that is listed
pub list_of : {A X : Type 0} {P : A → Type 0} {F : A → X → Type 0} → IsListed P → ((a : A) → IsListed (F a)) →
    IsListed (λ x. (a : A) × P a × F a x)
list_of {A} {X} (of, are) each =
    let list : A → List X = λ a. (each a).0 in (
      flat_map list of,
      λ x. (
        λ has. let (a, within, inside) = contains_flat_map_cases list of x has in (a, (are a).0 within, ((each a).1 x).0 inside),
        λ (a, p, f). contains_flat_map list of a x ((are a).1 p) (((each a).1 x).1 f),
      ),
    )

-- what is listed and has another property
pub list_such : {X : Type 0} {P D : X → Type 0} → IsListed P → ((x : X) → HoldsOrNot (D x)) → IsListed (λ x. P x × D x)
list_such {X} {P} {D} listed decide = listed_by
    (λ (x : X). (λ (y, p, (d, is)). subst (λ (z : X). P z × D z) is (p, d), λ (p, d). (x, p, (d, refl))))
    (list_of listed (λ y. list_where (decide y) (listed_one y)))

-- Some of a list, and all of it

some_element : {X : Type 0} {Q : X → Type 0} (xs : List X) → ((x : X) → HoldsOrNot (Q x)) → HoldsOrNot ((x : X) × Contains xs x × Q x)
some_element [] decide = inr (λ (x, has, q). contains_none x has)
some_element {X} {Q} (y ∷ ys) decide = elim (decide y) [
  | inl q ↦ inl (y, contains_head y ys, q)
  | inr fails ↦ elim (some_element ys decide) [
    | inl (x, has, q) ↦ inl (x, contains_tail y ys x has, q)
    | inr none ↦ inr (λ (x, has, q). elim (contains_cases y ys x has) [
      | inl same ↦ fails (subst Q (sym same) q)
      | inr later ↦ none (x, later, q)
    ])
  ]
]

pub some_or_none : {X : Type 0} {P Q : X → Type 0} → IsListed P → ((x : X) → HoldsOrNot (Q x)) → HoldsOrNot ((x : X) × P x × Q x)
some_or_none (xs, are) decide = elim (some_element xs decide) [
  | inl (x, has, q) ↦ inl (x, (are x).0 has, q)
  | inr none ↦ inr (λ (x, p, q). none (x, (are x).1 p, q))
]

pub each_or_not : {X : Type 0} {P Q : X → Type 0} → IsListed P → ((x : X) → HoldsOrNot (Q x)) → HoldsOrNot ((x : X) → P x → Q x)
each_or_not listed decide = elim (some_or_none listed (λ x. opposite_or_not (decide x))) [
  | inl (x, p, fails) ↦ inr (λ each. fails (each x p))
  | inr none ↦ inl (λ x p. elim (decide x) [ inl q ↦ q | inr fails ↦ absurd (none (x, p, fails)) ])
]
