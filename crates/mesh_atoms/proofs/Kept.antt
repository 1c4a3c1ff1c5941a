-- What the tests of settings say.
use Rattle.mesh_atoms.proofs.Common.{arith, common_steps, ◌≡◌, Bool, true, false, List, [], ◌∷◌, IsTrue, not, ◌||◌, AllByRecursion, list_any, are_distinct, and_parts as both}
use Rattle.std.specs.List.{IsDistinct}

neither : (a b : Bool) → not (a || b) ≡ true → (a ≡ false) × (not b ≡ true)
neither a b h = grind (arith, common_steps)

none_passes : {A : Type 0} (p : A → Bool) (xs : List A) → not (list_any p xs) ≡ true → AllByRecursion (λ x. p x ≡ false) xs
none_passes p [] h = tt
none_passes p (x ∷ xs) h = let parts = neither (p x) (list_any p xs) h in (parts.0, none_passes p xs parts.1)

-- no value stands twice
pub distinct_is : {A : Type 0} (eq : A → A → Bool) (xs : List A) → IsTrue (are_distinct eq xs) → IsDistinct eq xs
unfolding IsDistinct
distinct_is eq [] h = tt
distinct_is eq (x ∷ xs) h = let parts = both (not (list_any (eq x) xs)) (are_distinct eq xs) h in (none_passes (eq x) xs parts.0, distinct_is eq xs parts.1)
