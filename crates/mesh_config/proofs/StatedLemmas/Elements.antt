-- Tables of arrays, one after the other.
use Rattle.mesh_config.proofs.Common.{arith, common_steps, ◌≡◌, ℕ, List, [], ◌∷◌, ◌++◌, map, Option, Some, None, refl, ◌+◌, ◌<◌, length, get_or, drop, take, Data, Members, view, Value, ConfigFault, Fault, first, FailsAt, Each, table_of, element_visits, tables_visits}
use Rattle.mesh_config.proofs.KeysLemmas.Elements.{drop_here, map_take}

-- the first of two lists
pub first_passes : (a b : List (Option Fault)) → first a ≡ None → first (a ++ b) ≡ first b
first_passes [] b h = refl
first_passes (None ∷ a) b h = first_passes a b h
first_passes (Some f ∷ a) b h = cc

pub first_found : (a b : List (Option Fault)) (f : Fault) → first a ≡ Some f → first (a ++ b) ≡ Some f
first_found [] b f h = cc
first_found (None ∷ a) b f h = first_found a b f h
first_found (Some g ∷ a) b f h = h

-- values that tables say, and one more
pub Each-more : {X : Type 0} (Is : Members → X → Type 0) (ds : List Data) (d : Data) (xs : List X) (x : X) → Each Is ds xs → Is (table_of d) x → Each Is (ds ++ d ∷ []) (xs ++ x ∷ [])
Each-more Is [] d [] x all one = (one, tt)
Each-more Is (e ∷ ds) d (y ∷ xs) x all one = (all.0, Each-more Is ds d xs x all.1 one)
Each-more Is [] d (y ∷ xs) x all one = absurd all
Each-more Is (e ∷ ds) d [] x all one = absurd all

-- a fault of the first list is the first of both
pub fails_first : (e : ConfigFault) (a b : List (Option Fault)) → FailsAt e (first a) → FailsAt e (first (a ++ b))
fails_first e a b h = grind (arith, common_steps, first_found)

-- one table of an array after the other: its fault is that of the array, and without one the array goes on
pub tables_fail : (entries : Members → List (Option Fault)) (key : List ℕ) (vs : List Value) (i : ℕ) (v : Value) (e : ConfigFault) → v ≡ get_or vs i v → i < length vs
    → FailsAt e (first (element_visits entries key (view v))) → FailsAt e (first (tables_visits entries key (map view (drop i vs))))
tables_fail entries key vs i v e here within h = grind (arith, common_steps, drop_here, fails_first)

pub tables_pass : (entries : Members → List (Option Fault)) (key : List ℕ) (vs : List Value) (i : ℕ) (v : Value) → v ≡ get_or vs i v → i < length vs
    → first (element_visits entries key (view v)) ≡ None → first (tables_visits entries key (map view (drop i vs))) ≡ first (tables_visits entries key (map view (drop (i + 1) vs)))
tables_pass entries key vs i v here within h = grind (arith, common_steps, drop_here, first_passes)

pub tables_said : {X : Type 0} (Is : Members → X → Type 0) (vs : List Value) (i : ℕ) (v : Value) (xs : List X) (x : X) → v ≡ get_or vs i v → i < length vs
    → Each Is (map view (take i vs)) xs → Is (table_of (view v)) x → Each Is (map view (take (i + 1) vs)) (xs ++ x ∷ [])
tables_said Is vs i v xs x here within all one = grind (arith, common_steps, map_take, Each-more)

-- from one kind of values to another that agrees with it
pub Each-along : {X Y C : Type 0} (Is : Members → X → Type 0) (Says : Members → Y → Type 0) (f : X → C) (g : Y → C) → ((t : Members) (x : X) (y : Y) → g y ≡ f x → Is t x → Says t y)
    → (ds : List Data) (xs : List X) (ys : List Y) → map g ys ≡ map f xs → Each Is ds xs → Each Says ds ys
Each-along Is Says f g h [] [] [] same all = tt
Each-along Is Says f g h (d ∷ ds) (x ∷ xs) (y ∷ ys) same all =
    let here : g y ≡ f x = cc in let there : map g ys ≡ map f xs = cc in
    (h (table_of d) x y here all.0, Each-along Is Says f g h ds xs ys there all.1)
Each-along Is Says f g h [] [] (y ∷ ys) same all = let bad : ⊥ = cc in absurd bad
Each-along Is Says f g h (d ∷ ds) (x ∷ xs) [] same all = let bad : ⊥ = cc in absurd bad
Each-along Is Says f g h [] (x ∷ xs) ys same all = absurd all
Each-along Is Says f g h (d ∷ ds) [] ys same all = absurd all

-- from values to what is made of each
pub Each-map : {X Y : Type 0} (Is : Members → X → Type 0) (Says : Members → Y → Type 0) (f : X → Y) → ((t : Members) (x : X) → Is t x → Says t (f x))
    → (ds : List Data) (xs : List X) → Each Is ds xs → Each Says ds (map f xs)
Each-map Is Says f h [] [] all = tt
Each-map Is Says f h (d ∷ ds) (x ∷ xs) all = (h (table_of d) x all.0, Each-map Is Says f h ds xs all.1)
Each-map Is Says f h [] (x ∷ xs) all = absurd all
Each-map Is Says f h (d ∷ ds) [] all = absurd all
