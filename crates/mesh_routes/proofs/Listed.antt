-- Lists of all that has a property.
use Rattle.mesh_routes.proofs.Common.{common_steps, ◌≡◌, ◌↔◌, ℕ, zero, suc, ◌<◌, ◌⊎◌, inl, inr, refl, sym, subst, arith, Option, Some, None, List, [], ◌∷◌, ◌++◌, Contains, cases_lt, Contains-append_left, Contains-append_right, Contains-append_cases, contains_cases, contains_tail as in_tail, contains_none as none_of, contains_head as here}

-- the list has exactly what has the property
abbrev pub IsListed : {X : Type 0} → (X → Type 0) → Type 0
IsListed {X} P = (xs : List X) × ((x : X) → Contains xs x ↔ P x)

-- Properties one by one

pub listed_none : {X : Type 0} {P : X → Type 0} → ((x : X) → P x → ⊥) → IsListed P
listed_none none = ([], λ x. (λ has. absurd (none_of x has), λ p. absurd (none x p)))

pub listed_one : {X : Type 0} (y : X) → IsListed (λ x. y ≡ x)
listed_one {X} y = (
  y ∷ [],
  λ x. (
    λ has. elim (contains_cases y [] x has) [ inl same ↦ same | inr later ↦ absurd (none_of x later) ],
    λ same. subst (λ (z : X). Contains (y ∷ []) z) same (here y []),
  ),
)

pub listed_by : {X : Type 0} {P Q : X → Type 0} → ((x : X) → P x ↔ Q x) → IsListed P → IsListed Q
listed_by both (xs, are) = (xs, λ x. (λ has. (both x).0 ((are x).0 has), λ q. (are x).1 ((both x).1 q)))

-- where a statement holds
pub listed_where : {X : Type 0} {P : X → Type 0} {D : Type 0} → D ⊎ (D → ⊥) → IsListed P → IsListed (λ x. D × P x)
listed_where h0 h1 = grind (arith, common_steps, listed_none)

-- of a value that is known
pub listed_known : {A X : Type 0} {F : A → X → Type 0} (o : Option A) → ((a : A) → IsListed (F a)) →
    IsListed (λ x. (a : A) × (o ≡ Some a) × F a x)
listed_known None each = listed_none (λ x p. let none : None ≡ Some p.0 = p.1 in absurd cc)
listed_known {A} {F = F} (Some a) each = listed_by
    (λ x. (
      λ f. (a, refl, f),
      λ p. let both : Some a ≡ Some p.0 = p.1 in let same : p.0 ≡ a = cc in subst (λ (b : A). F b x) same p.2,
    ))
    (each a)

pub listed_either : {X : Type 0} {P Q : X → Type 0} → IsListed P → IsListed Q → IsListed (λ x. P x ⊎ Q x)
listed_either (xs, are) (ys, others) = (
  xs ++ ys,
  λ x. (
    λ has. elim (Contains-append_cases xs ys x has) [ inl left ↦ inl ((are x).0 left) | inr right ↦ inr ((others x).0 right) ],
    λ p. elim p [
      | inl left ↦ Contains-append_left xs ys x ((are x).1 left)
      | inr right ↦ Contains-append_right xs ys x ((others x).1 right)
    ],
  ),
)

-- of some element of a list
pub listed_each : {E X : Type 0} {F : E → X → Type 0} (es : List E) → ((e : E) → IsListed (F e)) →
    IsListed (λ x. (e : E) × Contains es e × F e x)
listed_each [] each = listed_none (λ x p. none_of p.0 p.1)
listed_each {E} {F = F} (e ∷ es) each = listed_by
    (λ x. (
      λ p. elim p [ inl f ↦ (e, here e es, f) | inr (d, has, f) ↦ (d, in_tail e es d has, f) ],
      λ p. elim (contains_cases e es p.0 p.1) [
        | inl same ↦ inl (subst (λ (d : E). F d x) (sym same) p.2)
        | inr later ↦ inr (p.0, later, p.2)
      ],
    ))
    (listed_either (each e) (listed_each es each))

-- of some number below another
pub listed_below : {X : Type 0} {F : ℕ → X → Type 0} (n : ℕ) → ((i : ℕ) → IsListed (F i)) → IsListed (λ x. (i : ℕ) × (i < n) × F i x)
listed_below zero each = listed_none (λ x p. let l : p.0 < 0 = p.1 in omega arith)
listed_below {F = F} (suc n) each = listed_by
    (λ x. (
      λ p. elim p [ inl (i, l, f) ↦ (i, omega arith, f) | inr f ↦ (n, omega arith, f) ],
      λ p. elim (cases_lt p.0 n) [
        | inl less ↦ inl (p.0, less, p.2)
        | inr more ↦ let l : p.0 < suc n = p.1 in let same : p.0 ≡ n = omega arith in inr (subst (λ (i : ℕ). F i x) same p.2)
      ],
    ))
    (listed_either (listed_below n each) (each n))
