-- Places of a list that grows at its end, of which one item is replaced, or whose items are turned.
use Rattle.mesh_machine.proofs.Common.{◌≡◌, ℕ, ◌≤◌, ◌⊎◌, inl, inr, List, [], ◌∷◌, ◌++◌, refl, ap, zero, suc, length, arith, Some, None, All, map, slice_get, slice_set, ◌≢◌, common_steps, All-nil, All-cons, All-head, All-tail, slice_get_cases, get_pushed as push_at}
pub use Rattle.mesh_atoms.proofs.Lists.{set_here}
pub use Rattle.mesh_wire.proofs.Standing.{same_at}

-- what holds at each place holds with one more item
pub each_more : {A : Type 0} (P : ℕ → A → Type 0) (xs : List A) (x : A) → ((i : ℕ) (y : A) → slice_get xs i ≡ Some y → P i y) → P (length xs) x → (i : ℕ) (y : A) → slice_get (xs ++ x ∷ []) i ≡ Some y → P i y
each_more P xs x h p i y at = grind (arith, common_steps, push_at)

-- nothing stands from the length on
pub none_past : {A : Type 0} (xs : List A) (i : ℕ) → slice_get xs i ≡ None → length xs ≤ i
none_past xs i h = grind (arith, common_steps, slice_get_cases)

-- One item is replaced

-- the item that replaces another, and the others
pub set_at : {A : Type 0} (xs : List A) (i : ℕ) (x : A) (j : ℕ) (y : A) → slice_get (slice_set xs i x) j ≡ Some y → ((j ≡ i) × (y ≡ x)) ⊎ ((j ≢ i) × (slice_get xs j ≡ Some y))
set_at [] i x j y h = absurd (cc)
set_at (z ∷ xs) zero x zero y h = inl (refl, cc)
set_at (z ∷ xs) zero x (suc j) y h = inr ((λ e. omega (arith, e)), h)
set_at (z ∷ xs) (suc i) x zero y h = inr ((λ e. omega (arith, e)), h)
set_at (z ∷ xs) (suc i) x (suc j) y h = grind (arith, common_steps, set_at xs i x j y h)

-- the others stay
pub set_there : {A : Type 0} (xs : List A) (i : ℕ) (x : A) (j : ℕ) (y : A) → j ≢ i → slice_get xs j ≡ Some y → slice_get (slice_set xs i x) j ≡ Some y
set_there [] i x j y other h = absurd (cc)
set_there (z ∷ xs) zero x zero y other h = absurd (other refl)
set_there (z ∷ xs) zero x (suc j) y other h = h
set_there (z ∷ xs) (suc i) x zero y other h = h
set_there (z ∷ xs) (suc i) x (suc j) y other h = set_there xs i x j y (λ e. other (ap suc e)) h

-- All items are turned

pub mapped_at : {A B : Type 0} (f : A → B) (xs : List A) (i : ℕ) (x : A) → slice_get xs i ≡ Some x → slice_get (map f xs) i ≡ Some (f x)
mapped_at f [] i x at = absurd (cc)
mapped_at f (y ∷ xs) zero x at = let e : y ≡ x = cc in ap (λ z. Some (f z)) e
mapped_at f (y ∷ xs) (suc i) x at = mapped_at f xs i x at

-- what holds of all that are turned
pub all_turned : {A B : Type 0} (P : B → Type 0) (f : A → B) (xs : List A) → All P (map f xs) → All (λ x. P (f x)) xs
all_turned P f [] h = All-nil (λ x. P (f x))
all_turned P f (x ∷ xs) h = All-cons (λ x. P (f x)) x xs (All-head P (f x) (map f xs) h) (all_turned P f xs (All-tail P (f x) (map f xs) h))
