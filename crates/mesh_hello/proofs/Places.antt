-- Elements of lists by their places.
use Rattle.mesh_hello.proofs.Common.{◌≡◌, ℕ, zero, suc, ◌+◌, ◌++◌, List, [], ◌∷◌, drop, refl, ap, subst, add-one, arith, Contains, Some, slice_get, ◌↔◌, common_steps, flat_map, append_assoc, same_some, none_not}

drop_at : {A : Type 0} (xs : List A) (k : ℕ) (x : A) → slice_get xs k ≡ Some x → drop k xs ≡ x ∷ drop (suc k) xs
drop_at [] k x h = none_not refl h
drop_at (y ∷ ys) zero x h = ap (λ z. z ∷ ys) (same_some refl h)
drop_at (y ∷ ys) (suc k) x h = drop_at ys k x h

-- what a list with the rest gives, with what the next element gives put at its end
pub put_next : {A B : Type 0} (f : A → List B) (xs : List A) (k : ℕ) (x : A) (list whole : List B) → slice_get xs k ≡ Some x →
    list ++ flat_map f (drop k xs) ≡ whole → (list ++ f x) ++ flat_map f (drop (k + 1) xs) ≡ whole
put_next f xs k x list whole at h = grind (arith, common_steps, add-one, drop_at, append_assoc)

-- lists put one after another have what they have one by one
pub same_in_turn : {A : Type 0} (once w x y z l0 l1 l2 l3 : List A) → l0 ≡ w → l1 ≡ l0 ++ x → l2 ≡ l1 ++ y → l3 ≡ l2 ++ z →
    ((a : A) → Contains once a ↔ Contains l3 a) → (a : A) → Contains once a ↔ Contains (w ++ (x ++ (y ++ z))) a
same_in_turn {A} once w x y z l0 l1 l2 l3 e0 e1 e2 e3 same a =
    let is : l3 ≡ w ++ (x ++ (y ++ z)) = rw (e3, e2, e1, e0) (simp append_assoc) in
    subst (λ (l : List A). Contains once a ↔ Contains l a) is (same a)
