-- Elements of arrays, one after the other.
use Rattle.mesh_config.proofs.Common.{arith, common_steps, ◌≡◌, ℕ, ◌+◌, ◌<◌, List, [], ◌∷◌, ◌++◌, map, length, get_or, drop, take, Option, Some, None, refl, sym, ap, ◌∙◌, drop_more, map_more, Data, items_of, view, Value, items_list, all_of, ◌>>=◌}

pub items_list-of : (ds : List Data) → items_list (items_of ds) ≡ ds
items_list-of [] = refl
items_list-of (d ∷ ds) = ap (λ (xs : List Data). d ∷ xs) (items_list-of ds)

-- an element, and those behind it
pub drop_here : {A : Type 0} (xs : List A) (i : ℕ) (x : A) → x ≡ get_or xs i x → i < length xs → drop i xs ≡ x ∷ drop (i + 1) xs
drop_here xs i x here within = drop_more xs i x within ∙ ap (λ (y : _). y ∷ drop (i + 1) xs) (sym here)

-- what is made of the elements up to one, and of it
pub map_take : {A B : Type 0} (f : A → B) (xs : List A) (i : ℕ) (x : A) → x ≡ get_or xs i x → i < length xs → map f (take (i + 1) xs) ≡ map f (take i xs) ++ f x ∷ []
map_take f xs i x here within = map_more f xs i x within ∙ ap (λ (y : _). map f (take i xs) ++ f y ∷ []) (sym here)

-- what was turned, in front of what is still to be
abbrev pub with_front : {A : Type 0} → List A → Option (List A) → Option (List A)
with_front front None = None
with_front front (Some xs) = Some (front ++ xs)

-- one element more is turned
front_more : {A : Type 0} (front : List A) (x : A) (rest : Option (List A)) → with_front front (rest >>= λ xs. Some (x ∷ xs)) ≡ with_front (front ++ x ∷ []) rest
front_more front x rest = grind (arith, common_steps)

pub turned_more : {A : Type 0} (turn : Data → Option A) (vs : List Value) (i : ℕ) (v : Value) (x : A) (front : List A) → v ≡ get_or vs i v → i < length vs → Some x ≡ turn (view v)
    → with_front front (all_of turn (map view (drop i vs))) ≡ with_front (front ++ x ∷ []) (all_of turn (map view (drop (i + 1) vs)))
turned_more turn vs i v x front here within turned = grind (arith, common_steps, drop_here, front_more, all_of)
