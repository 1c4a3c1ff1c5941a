-- Short lists, and bases of one tuple and of none.
use Rattle.mesh_paths.proofs.Common.{common_steps, ◌≡◌, ℕ, zero, suc, ◌<◌, ◌⊎◌, refl, arith, List, [], ◌∷◌, Contains, slice_get, slice_index_or, length, Some, None, Bool, true, false, cond, nat_eq, eq-eqb, Addr4, base_of, HasDistinctKeys, addr_eq, IsWithin, contains_head as here, none_is_some}
use Rattle.std.specs.List.{IsDistinct}

pub only_at : {A : Type 0} (a t : A) (k : ℕ) → k < length (a ∷ []) → slice_index_or (a ∷ []) k t ≡ t → t ≡ a
only_at a t k l e = grind (arith, common_steps)

pub only : {A : Type 0} (a t : A) → Contains (a ∷ []) t → t ≡ a
only a t c = only_at a t c.0 c.1 c.2

pub two_at : {A : Type 0} (a b t : A) (k : ℕ) → k < length (a ∷ b ∷ []) → slice_index_or (a ∷ b ∷ []) k t ≡ t → (t ≡ a) ⊎ (t ≡ b)
two_at a b t k l e = grind (arith, common_steps)

pub two : {A : Type 0} (a b t : A) → Contains (a ∷ b ∷ []) t → (t ≡ a) ⊎ (t ≡ b)
two a b t c = two_at a b t c.0 c.1 c.2

pub first_of : {A : Type 0} (a t : A) (k : ℕ) → slice_get (a ∷ []) k ≡ Some t → (k ≡ 0) × (t ≡ a)
first_of a t k e = grind (arith, common_steps)

-- Bases of one tuple and of none

pub same_number : (n : ℕ) → nat_eq n n ≡ true
same_number n = eq-eqb n n refl

pub found_one : {K V : Type 0} (eq : K → K → Bool) (k q : K) (e f : V) → cond (eq q k) (Some e) None ≡ Some f → (eq q k ≡ true) × (f ≡ e)
found_one eq k q e f h = grind (arith, common_steps)

pub empty_within : {K V : Type 0} (eq : K → K → Bool) (now : ℕ) → IsWithin {K = K} {V = V} eq now 16384 []
unfolding IsDistinct
empty_within eq now = record { distinct = tt; limit = omega arith; fresh = λ q value until h. none_is_some h }

pub empties_within : {K V : Type 0} (eq : K → K → Bool) (now i : ℕ) → IsWithin {K = K} {V = V} eq now 16384 (base_of ([] ∷ []) i)
empties_within eq now zero = empty_within eq now
empties_within eq now (suc i) = empty_within eq now

pub single_distinct : {K V : Type 0} (eq : K → K → Bool) (k : K) (e : V × ℕ) → HasDistinctKeys eq ((k, e) ∷ [])
unfolding IsDistinct
single_distinct eq k e = (tt, tt)

pub empty_distinct : {K : Type 0} (V : Type 0) (eq : K → K → Bool) → HasDistinctKeys {K = K} {V = V} eq []
unfolding IsDistinct
empty_distinct V eq = tt

-- distinct addresses that are all one and the same are not many
pub few_of_one : (b : Addr4) (some : List Addr4) → IsDistinct addr_eq some → ((a : Addr4) → Contains some a → a ≡ b) → 1024 < length some → ⊥
unfolding IsDistinct
few_of_one b [] distinct all more = absurd (omega (arith, more))
few_of_one b (a ∷ []) distinct all more = absurd (omega (arith, more))
few_of_one b (a ∷ c ∷ rest) distinct all more =
    let first : a ≡ b = all a (here a (c ∷ rest)) in
    let second : c ≡ b = all c (1, omega arith, refl) in
    let apart : addr_eq a c ≡ false = distinct.0.0 in
    let same : addr_eq a c ≡ true = rw (first, second) (same_number b.0) in
    absurd (cc)
