-- Items of a list one after the other, and by their fields.
use Rattle.mesh_trace.proofs.Common.{common_steps, ◌≡◌, ℕ, ◌+◌, ◌<◌, ◌≤◌, ltb, List, ◌∷◌, length, map, sym, subst, ap, ◌∙◌, arith, slice_index_or, All, Contains, Some, drop, slice_get, at_drop_more, drop-map, All-contains, slice_get_within, slice_get-get_or, ltb-true, ltb-false, contains_at, contains_map as mapped, contains_map_cases as unmapped}
use Rattle.mesh_atoms.proofs.Options.{some_equal}

-- the item at a place, as an index gives it
pub item_at : {X : Type 0} (xs : List X) (i : ℕ) (x : X) → i < length xs → x ≡ slice_index_or xs i x → slice_get xs i ≡ Some x
item_at xs i x lt is = slice_get-get_or xs i x lt ∙ ap (λ y. Some y) (sym is)

module _ {X : Type 0} (P : ℕ → X → Type 0) (xs : List X) where
  -- it holds of the items before a place
  abbrev pub HoldsBefore : ℕ → Type 0
  HoldsBefore i = (j : ℕ) (x : X) → j < i → slice_get xs j ≡ Some x → P j x

  pub before_more : (i : ℕ) (x : X) → slice_get xs i ≡ Some x → P i x → HoldsBefore i → HoldsBefore (i + 1)
  before_more i x here holds before j y lt is = grind (arith, common_steps, some_equal, ltb, ltb-true, ltb-false)

  pub before_all : (i : ℕ) → length xs ≤ i → HoldsBefore i → (j : ℕ) (x : X) → slice_get xs j ≡ Some x → P j x
  before_all i most before j x is = before j x (let lt = slice_get_within xs j x is in omega (arith, lt, most)) is

module _ {X Y : Type 0} (f : X → Y) (xs : List X) where
  pub next_mapped : (i : ℕ) (x : X) → i < length xs → x ≡ slice_index_or xs i x → drop i (map f xs) ≡ f x ∷ drop (i + 1) (map f xs)
  next_mapped i x lt is = drop-map f i xs ∙ at_drop_more (map f) xs i x lt ∙ ap (λ (y : X). f y ∷ map f (drop (i + 1) xs)) (sym is) ∙ ap (λ (l : List Y). f x ∷ l) (sym (drop-map f (i + 1) xs))

  pub there_mapped : (i : ℕ) (x : X) → i < length xs → x ≡ slice_index_or xs i x → Contains (map f xs) (f x)
  there_mapped i x lt is = mapped f xs x (i, lt, sym is)

  -- what holds of each item by its fields
  pub all_mapped : (P : Y → Type 0) → ((j : ℕ) (x : X) → slice_get xs j ≡ Some x → P (f x)) → (y : Y) → Contains (map f xs) y → P y
  all_mapped P all y has =
      let (x, (j, lt, at), is) = unmapped f xs y has in
      subst P is (all j x (slice_get-get_or xs j x lt ∙ ap (λ z. Some z) at))

  -- what holds of each by its fields holds of the item at a place
  pub one_mapped : (P : Y → Type 0) → All P (map f xs) → (i : ℕ) (x : X) → slice_get xs i ≡ Some x → P (f x)
  one_mapped P all i x at = All-contains P (map f xs) (f x) all (mapped f xs x (contains_at xs i x at))

  pub mapped_item : (i : ℕ) (x : X) → slice_get xs i ≡ Some x → Contains (map f xs) (f x)
  mapped_item i x at = mapped f xs x (contains_at xs i x at)
