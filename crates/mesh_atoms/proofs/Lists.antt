-- Elements of lists.
use Rattle.mesh_atoms.proofs.Common.{common_steps, are_distinct, All, Bool, Contains, List, None, Option, Some, [], ap, append_assoc, arith, cond, false, filter, get_or, inl, inr, length, length-append, map, refl, slice_get, subst, suc, sym, true, zero, ℕ, ◌++◌, ◌+◌, ◌-◌, ◌<◌, ◌∙◌, ◌∷◌, ◌≡◌, ◌≤◌, ◌⊎◌, not, slice_set, slice_range, and_parts, get_or-map, length-map, All-contains, All-contains_itself, All-filter, Contains-append_cases, Contains-append_left, Contains-append_right, filter_passes, list_any-append, list_any-from_Contains, get_or_from_slice_get, slice_get-get_or, slice_get_read, slice_get_within, IsEquivalence, AllPairs, cons_option, flat_map, list_all, list_any}
use Rattle.mesh_atoms.proofs.Options.{none_is_some, not_both}
use Rattle.std.proofs.lemmas.List.Kept.{AllPairs-cons}

pub contains_head : {A : Type 0} (a : A) (rest : List A) → Contains (a ∷ rest) a
contains_head a rest = (0, omega arith, refl)

pub contains_tail : {A : Type 0} (x : A) (xs : List A) (a : A) → Contains xs a → Contains (x ∷ xs) a
contains_tail x xs a c = (suc c.0, omega (arith, c.1), c.2)

pub contains_cases : {X : Type 0} (x : X) (xs : List X) (z : X) → Contains (x ∷ xs) z → (x ≡ z) ⊎ Contains xs z
contains_cases x xs z h3 = grind (arith, common_steps)

pub contains_none : {X : Type 0} (z : X) → Contains [] z → ⊥
contains_none z (k, lt, is) = omega arith

pub contains_map : {A B : Type 0} (f : A → B) (xs : List A) (x : A) → Contains xs x → Contains (map f xs) (f x)
contains_map f xs x (k, lt, is) = (k, (let e : length (map f xs) ≡ length xs = length-map xs f in omega (arith, lt, e)), get_or-map f xs k x (f x) lt ∙ ap f is)

pub contains_map_cases : {X Y : Type 0} (f : X → Y) (xs : List X) (y : Y) → Contains (map f xs) y → (x : X) × Contains xs x × (f x ≡ y)
contains_map_cases f [] y has = absurd (contains_none y has)
contains_map_cases f (x ∷ xs) y has = elim (contains_cases (f x) (map f xs) y has) [
  | inl e ↦ (x, contains_head x xs, e)
  | inr later ↦ let (z, among, is) = contains_map_cases f xs y later in (z, contains_tail x xs z among, is)
]

pub contains_at : {A : Type 0} (xs : List A) (i : ℕ) (x : A) → slice_get xs i ≡ Some x → Contains xs x
contains_at xs i x at = (i, slice_get_within xs i x at, get_or_from_slice_get xs i x x at)

-- an element stands at a place
pub place_of : {A : Type 0} (xs : List A) (x : A) → Contains xs x → (k : ℕ) × (k < length xs) × (slice_get xs k ≡ Some x)
place_of xs x (k, lt, is) = (k, lt, slice_get-get_or xs k x lt ∙ ap Some is)

pub item_at : {X : Type 0} (xs : List X) (k : ℕ) → k < length xs → (x : X) × (slice_get xs k ≡ Some x)
item_at [] k lt = absurd (omega arith)
item_at (x ∷ xs) zero lt = (x, refl)
item_at (x ∷ xs) (suc k) lt = item_at xs k (omega arith)

pub get_pushed : {A : Type 0} (xs : List A) (x : A) (i : ℕ) (y : A) → slice_get (xs ++ x ∷ []) i ≡ Some y → (slice_get xs i ≡ Some y) ⊎ ((i ≡ length xs) × (x ≡ y))
get_pushed [] x zero y h = inr (refl, cc)
get_pushed [] x (suc i) y h = absurd (cc)
get_pushed (z ∷ xs) x zero y h = inl h
get_pushed (z ∷ xs) x (suc i) y h = elim (get_pushed xs x i y h) [ inl e ↦ inl e | inr (a, b) ↦ inr (ap suc a, b) ]

pub all_pairs_tail : {X : Type 0} (R : X → X → Type 0) (x : X) (xs : List X) → AllPairs R (x ∷ xs) → AllPairs R xs
all_pairs_tail R x xs pairs i j d less low = pairs (suc i) (suc j) d (omega arith) (omega arith)

pub all_pairs_head : {X : Type 0} (R : X → X → Type 0) (x : X) (xs : List X) → AllPairs R (x ∷ xs) → (y : X) → Contains xs y → R x y
all_pairs_head R x xs pairs y (k, lt, is) = subst (R x) is (pairs zero (suc k) y (omega arith) (omega arith))

pub all_pairs_cons : {X : Type 0} (R : X → X → Type 0) (x : X) (xs : List X) → ((y : X) → Contains xs y → R x y) → AllPairs R xs → AllPairs R (x ∷ xs)
all_pairs_cons R x xs front rest = AllPairs-cons R x xs (λ i d lt. front _ (All-contains_itself xs i d lt)) rest

pub append_none : {A : Type 0} (xs ys : List A) → xs ++ ys ≡ [] → (xs ≡ []) × (ys ≡ [])
append_none [] ys e = (refl, e)
append_none (x ∷ xs) ys e = let bad : ⊥ = cc in absurd bad

pub first_item : {A : Type 0} (xs : List A) → 1 ≤ length xs → (x : A) × (slice_get xs 0 ≡ Some x)
first_item [] h = absurd (omega arith)
first_item (x ∷ xs) h = (x, refl)

pub contains_cond : {A : Type 0} (b : Bool) (x a : A) (rest : List A) → Contains rest a → Contains (cond b (x ∷ rest) rest) a
contains_cond true x a rest (k, l, at) = (suc k, omega (arith, l), at)
contains_cond false x a rest c = c

pub contains_filter : {A : Type 0} (q : A → Bool) (xs : List A) (a : A) → Contains xs a → q a ≡ true → Contains (filter q xs) a
contains_filter q [] a c passes = absurd (contains_none a c)
contains_filter {A} q (x ∷ xs) a c passes = elim (contains_cases x xs a c) [
  | inl e ↦
      let here : q x ≡ true = ap q e ∙ passes in
      subst (λ (b : Bool). Contains (cond b (x ∷ filter q xs) (filter q xs)) a) (sym here) (0, omega arith, e)
  | inr more ↦ contains_cond (q x) x a (filter q xs) (contains_filter q xs a more passes)
]

pub contains_flat_map_cases : {X Y : Type 0} (f : X → List Y) (xs : List X) (z : Y) → Contains (flat_map f xs) z → (x : X) × Contains xs x × Contains (f x) z
contains_flat_map_cases f [] z has = absurd (contains_none z has)
contains_flat_map_cases f (y ∷ ys) z has = elim (Contains-append_cases (f y) (flat_map f ys) z has) [
  | inl here ↦ (y, contains_head y ys, here)
  | inr later ↦ let (x, there, inside) = contains_flat_map_cases f ys z later in (x, contains_tail y ys x there, inside)
]

pub contains_flat_map : {X Y : Type 0} (f : X → List Y) (xs : List X) (x : X) (z : Y) → Contains xs x → Contains (f x) z → Contains (flat_map f xs) z
contains_flat_map f [] x z has inside = absurd (contains_none x has)
contains_flat_map f (y ∷ ys) x z has inside = elim (contains_cases y ys x has) [
  | inl same ↦ Contains-append_left (f y) (flat_map f ys) z (subst (λ (w : _). Contains (f w) z) (sym same) inside)
  | inr later ↦ Contains-append_right (f y) (flat_map f ys) z (contains_flat_map f ys x z later inside)
]

pub contains_flat_map_at : {A B : Type 0} (f : A → List B) (xs : List A) (k : ℕ) (u : A) (a : B) → slice_get xs k ≡ Some u → Contains (f u) a → Contains (flat_map f xs) a
contains_flat_map_at f [] k u a at c = absurd cc
contains_flat_map_at f (x ∷ xs) zero u a at c = let e : x ≡ u = cc in Contains-append_left (f x) (flat_map f xs) a (subst (λ b. Contains (f b) a) (sym e) c)
contains_flat_map_at f (x ∷ xs) (suc k) u a at c = Contains-append_right (f x) (flat_map f xs) a (contains_flat_map_at f xs k u a at c)

pub contains_filter_cases : {A : Type 0} (p : A → Bool) (xs : List A) (a : A) → Contains (filter p xs) a → Contains xs a × (p a ≡ true)
contains_filter_cases {A} p xs a has = (All-contains (Contains xs) (filter p xs) a (All-filter p (Contains xs) xs (All-contains_itself xs)) has, All-contains (λ (x : A). p x ≡ true) (filter p xs) a (filter_passes p xs) has)

-- what passes stays where another test passes it
pub any_filter : {K : Type 0} (test p : K → Bool) (xs : List K) → ((x : K) → p x ≡ true → test x ≡ true) → list_any p xs ≡ true → list_any p (filter test xs) ≡ true
any_filter test p [] both h = h
any_filter {K} test p (x ∷ xs) both h = grind (arith, common_steps, (any_filter test p xs both))

pub all_at : {A : Type 0} (p : A → Bool) (xs : List A) (i : ℕ) (x : A) → list_all p xs ≡ true → slice_get xs i ≡ Some x → p x ≡ true
all_at p [] i x h at = absurd (cc)
all_at p (y ∷ xs) zero x h at = let e : y ≡ x = cc in subst (λ z. p z ≡ true) e (and_parts (p y) (list_all p xs) h).0
all_at p (y ∷ xs) (suc i) x h at = all_at p xs i x (and_parts (p y) (list_all p xs) h).1 at

-- a count above some number is that of a router
pub item_counted : {A : Type 0} (f : A → ℕ) (xs : List A) (i n : ℕ) → n < get_or (map f xs) i 0 → (x : A) × (slice_get xs i ≡ Some x) × (n < f x)
item_counted f [] i n h = absurd (let no : n < 0 = h in omega (arith, no))
item_counted f (x ∷ xs) zero n h = (x, refl, h)
item_counted f (x ∷ xs) (suc i) n h = item_counted f xs i n h

pub length_pushed : {A : Type 0} (n : ℕ) (xs : List A) (x : A) → length xs ≡ n → length (xs ++ x ∷ []) ≡ n + 1
length_pushed n xs x h = let e = length-append xs (x ∷ []) in omega (arith, e, h)

pub place_in : {X : Type 0} (xs : List X) (x : X) → Contains xs x → (k : ℕ) × (slice_get xs k ≡ Some x)
place_in xs x has = (has.0, slice_get_read xs (length xs) has.0 x refl has.1 (sym has.2))

pub heads_equal : {A : Type 0} (x y : A) (xs ys : List A) → x ∷ xs ≡ y ∷ ys → x ≡ y
heads_equal x y xs ys e = cc

pub tails_equal : {A : Type 0} (x y : A) (xs ys : List A) → x ∷ xs ≡ y ∷ ys → xs ≡ ys
tails_equal x y xs ys e = cc

pub contains_one : {A : Type 0} (x y : A) → Contains (x ∷ []) y → x ≡ y
contains_one x y h2 = grind (arith, common_steps)

pub two_appended : {new' new'' : List ℕ} (old a b : List ℕ) → new' ≡ old ++ a → new'' ≡ new' ++ b → new'' ≡ old ++ (a ++ b)
two_appended old a b h k = k ∙ ap (λ (l : List ℕ). l ++ b) h ∙ append_assoc old a b

pub three_appended : {new' new'' new''' : List ℕ} (old a b c : List ℕ) → new' ≡ old ++ a → new'' ≡ new' ++ b → new''' ≡ new'' ++ c → new''' ≡ old ++ (a ++ b ++ c)
three_appended old a b c h k l = two_appended old (a ++ b) c (two_appended old a b h k) l

pub four_appended : {new' new'' new''' new'''' : List ℕ} (old a b c d : List ℕ) → new' ≡ old ++ a → new'' ≡ new' ++ b → new''' ≡ new'' ++ c → new'''' ≡ new''' ++ d → new'''' ≡ old ++ (a ++ b ++ c ++ d)
four_appended old a b c d h k l m = two_appended old (a ++ b ++ c) d (three_appended old a b c h k l) m

pub back_distinct : {A : Type 0} (eq : A → A → Bool) (xs ys : List A) → are_distinct eq (xs ++ ys) ≡ true → are_distinct eq ys ≡ true
back_distinct eq [] ys h = h
back_distinct eq (x ∷ xs) ys h = back_distinct eq xs ys (and_parts (not (list_any (eq x) (xs ++ ys))) (are_distinct eq (xs ++ ys)) h).1

none_front : {A : Type 0} (p : A → Bool) (xs ys : List A) → not (list_any p (xs ++ ys)) ≡ true → not (list_any p xs) ≡ true
none_front p xs ys h = grind (arith, list_any-append p xs ys, h)

pub front_distinct : {A : Type 0} (eq : A → A → Bool) (xs ys : List A) → are_distinct eq (xs ++ ys) ≡ true → are_distinct eq xs ≡ true
front_distinct eq [] ys h = refl
front_distinct eq (x ∷ xs) ys h =
    let parts = and_parts (not (list_any (eq x) (xs ++ ys))) (are_distinct eq (xs ++ ys)) h in
    rw (none_front (eq x) xs ys parts.0, front_distinct eq xs ys parts.1)

-- two parts of a list without repeats have nothing in common
pub parts_apart : {A : Type 0} {eq : A → A → Bool} → IsEquivalence eq → (xs ys : List A) (a : A) → are_distinct eq (xs ++ ys) ≡ true → Contains xs a → Contains ys a → ⊥
parts_apart equiv [] ys a h c d = contains_none a c
parts_apart {A} {eq} equiv (x ∷ xs) ys a h c d =
    let (new, rest) = and_parts (not (list_any (eq x) (xs ++ ys))) (are_distinct eq (xs ++ ys)) h in
    elim (contains_cases x xs a c) [
      | inl e ↦ not_both (list_any (eq x) (xs ++ ys)) (list_any-from_Contains equiv x (xs ++ ys) (subst (λ b. Contains (xs ++ ys) b) (sym e) (Contains-append_right xs ys a d))) new
      | inr more ↦ parts_apart equiv xs ys a rest more d
    ]

-- what two of such parts have in common they have at one place
pub one_part : {A B : Type 0} {eq : B → B → Bool} → IsEquivalence eq → (f : A → List B) (xs : List A) (k l : ℕ) (u v : A) (a : B) → are_distinct eq (flat_map f xs) ≡ true →
    slice_get xs k ≡ Some u → slice_get xs l ≡ Some v → Contains (f u) a → Contains (f v) a → k ≡ l
one_part equiv f [] k l u v a h at to c d = absurd cc
one_part equiv f (x ∷ xs) zero zero u v a h at to c d = refl
one_part equiv f (x ∷ xs) zero (suc l) u v a h at to c d =
    let e : x ≡ u = cc in
    absurd (parts_apart equiv (f x) (flat_map f xs) a h (subst (λ b. Contains (f b) a) (sym e) c) (contains_flat_map_at f xs l v a to d))
one_part equiv f (x ∷ xs) (suc k) zero u v a h at to c d =
    let e : x ≡ v = cc in
    absurd (parts_apart equiv (f x) (flat_map f xs) a h (subst (λ b. Contains (f b) a) (sym e) d) (contains_flat_map_at f xs k u a at c))
one_part {eq = eq} equiv f (x ∷ xs) (suc k) (suc l) u v a h at to c d =
    let same : k ≡ l = one_part equiv f xs k l u v a (back_distinct eq (f x) (flat_map f xs) h) at to c d in
    ap (λ (n : ℕ). suc n) same

-- a place within a list isn't empty
pub none_within : {X B : Type 0} (xs : List X) (k : ℕ) → k < length xs → None ≡ slice_get xs k → B
none_within xs k less none = let there = item_at xs k less in none_is_some (none ∙ there.1)

pub single_of : {X : Type 0} (xs : List X) → length xs ≡ 1 → (x : X) × (xs ≡ x ∷ [])
single_of [] e = absurd (omega arith)
single_of (x ∷ []) e = (x, refl)
single_of (x ∷ y ∷ rest) e = absurd (omega arith)

-- an element of a list that may begin with one more
pub option_cases : {X : Type 0} (o : Option X) (x : X) (rest : List X) → Contains (cons_option o rest) x → (o ≡ Some x) ⊎ Contains rest x
option_cases o x rest c = grind (arith, common_steps, contains_cases)

-- what all have, the item has that is read at a place
pub all_read : {A B : Type 0} (view : A → B) (P : B → Type 0) (xs : List A) (i : ℕ) (x : A) → All P (map view xs) → i < length xs → x ≡ get_or xs i x → P (view x)
all_read view P xs i x h lt is =
    subst (λ y. P (view y)) (sym is) (subst P (get_or-map view xs i x (view x) lt) (h i (view x) (omega (arith, lt, length-map xs view))))

pub set_here : {A : Type 0} (xs : List A) (i : ℕ) (x y : A) → slice_get xs i ≡ Some y → slice_get (slice_set xs i x) i ≡ Some x
set_here [] i x y h = absurd (cc)
set_here (z ∷ xs) zero x y h = refl
set_here (z ∷ xs) (suc i) x y h = set_here xs i x y h

-- the middle of three lists
pub middle_range : {X : Type 0} (xs ys zs : List X) → slice_range (xs ++ (ys ++ zs)) (length xs) (length xs + length ys) ≡ ys
middle_range xs ys zs = grind (arith, common_steps)
