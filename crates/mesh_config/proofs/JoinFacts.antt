-- What arcs that are joined by name keep.
use Rattle.mesh_config.proofs.Common.{common_steps, ◌≡◌, ℕ, zero, suc, List, [], ◌∷◌, ◌++◌, map, length, position, Bool, true, false, cond, codes, nat_eq, nat_lt, slice_index, Option, Some, None, Ok, Err, refl, sym, ◌∙◌, subst, arith, list_all, list_any, slice_get, list_any-append, are_distinct, Ends, ends_eq, is_interface, joins_routers, Fault, ReadValue, fault, bad_value, ◌>>=◌, Identifiers, NamedInterface, find_place, known_place, ends, new_ends, joined, joins, ◌>>?◌}
use Rattle.std.proofs.lemmas.Bool.Decides.{nat_tests}
use Rattle.mesh_config.specs.declared.keys.refusal.TheConstants.{DUPLICATE}

abbrev counts : List Identifiers → List ℕ
counts routers = map (λ (n : Identifiers). length n.interface_names) routers

position_within : {A : Type 0} (p : A → Bool) (xs : List A) (i : ℕ) → position p xs ≡ Some i → nat_lt i (length xs) ≡ true
position_within p xs i h = grind (arith, common_steps)

count_at : (routers : List Identifiers) (i : ℕ) (r : Identifiers) → slice_get routers i ≡ Some r → slice_index (counts routers) i ≡ length r.interface_names
count_at [] i r h = let bad : ⊥ = cc in absurd bad
count_at (x ∷ xs) zero r h = let same : x ≡ r = cc in rw same
count_at (x ∷ xs) (suc i) r h = count_at xs i r h

-- ---- what was looked up one after the other
pub bind_some : {A B : Type 0} (o : Option A) (f : A → Option B) (y : B) → (o >>= f) ≡ Some y → (x : A) × ((o ≡ Some x) × (f x ≡ Some y))
bind_some None f y h = let bad : ⊥ = cc in absurd bad
bind_some (Some x) f y h = (x, (refl, h))

place_within : (routers : List Identifiers) (p : NamedInterface) (a : ℕ × ℕ) → find_place routers p ≡ Some a → is_interface (counts routers) a.0 a.1 ≡ true
place_within routers p a h = grind (arith, common_steps, bind_some, count_at, position_within)

-- ---- what was read one after the other
bind_ok : {A B : Type 0} (r : ReadValue A) (f : A → ReadValue B) (y : B) → (r >>? f) ≡ Ok y → (x : A) × ((r ≡ Ok x) × (f x ≡ Ok y))
bind_ok (Ok x) f y h = (x, (refl, h))
bind_ok (Err e) f y h = let bad : ⊥ = cc in absurd bad

known_ok : (key : List ℕ) (found : Option (ℕ × ℕ)) (a : ℕ × ℕ) → known_place key found ≡ Ok a → found ≡ Some a
known_ok key found a h = grind (arith, common_steps)

new_of : (p q : Bool) (f g : Fault) (x e : Ends) → cond p (Err f) (cond q (Err g) (Ok x)) ≡ Ok e → (p ≡ false) × ((q ≡ false) × (e ≡ x))
new_of p q f g x e h = grind (arith, common_steps)

pub record Joins (routers : List Identifiers) (earlier : List Ends) (e : Ends) : Type 0 where
  pub in_range : joins_routers (counts routers) e ≡ true
  pub new : list_any (ends_eq e) earlier ≡ false

joined_ok : (routers : List Identifiers) (earlier : List Ends) (arc : NamedInterface × NamedInterface) (e : Ends) → joined routers earlier arc ≡ Ok e → Joins routers earlier e
joined_ok routers earlier arc e h =
    let one = bind_ok (known_place (codes "from") (find_place routers arc.0)) (λ a. known_place (codes "to") (find_place routers arc.1) >>? λ b. new_ends earlier a b) e h in
    let two = bind_ok (known_place (codes "to") (find_place routers arc.1)) (λ b. new_ends earlier one.0 b) e one.1.1 in
    let a = one.0 in let b = two.0 in
    let from = place_within routers arc.0 a (known_ok (codes "from") (find_place routers arc.0) a one.1.0) in
    let to = place_within routers arc.1 b (known_ok (codes "to") (find_place routers arc.1) b two.1.0) in
    let made = new_of (nat_eq a.0 b.0) (list_any (ends_eq (ends a b)) earlier) (bad_value (codes "to")) (fault DUPLICATE (codes "arc")) (ends a b) e two.1.1 in
    let says : Ends → Type 0 = λ x. Joins routers earlier x in
    subst says (sym made.1.1) (record { in_range = rw (from, to, made.0); new = made.1.0 })

abbrev whole_list : List Ends → ReadValue (List Ends)
whole_list xs = Ok xs

joins_more : (routers : List Identifiers) (earlier : List Ends) (arc : NamedInterface × NamedInterface) (arcs : List (NamedInterface × NamedInterface)) (es : List Ends) → joins routers earlier (arc ∷ arcs) ≡ Ok es
    → (e : Ends) × ((xs : List Ends) × ((joined routers earlier arc ≡ Ok e) × ((joins routers (earlier ++ e ∷ []) arcs ≡ Ok xs) × (es ≡ e ∷ xs))))
joins_more routers earlier arc arcs es h =
    let one = bind_ok (joined routers earlier arc) (λ e. joins routers (earlier ++ e ∷ []) arcs >>? λ xs. Ok (e ∷ xs)) es h in
    let e = one.0 in
    let two = bind_ok (joins routers (earlier ++ e ∷ []) arcs) (λ xs. Ok (e ∷ xs)) es one.1.1 in
    let last : whole_list (e ∷ two.0) ≡ Ok es = two.1.1 in
    let same : es ≡ e ∷ two.0 = cc in
    (e, (two.0, (one.1.0, (two.1.0, same))))

-- ---- two arcs join the same interfaces in either order of asking
eq-sym : (a b : ℕ) → nat_eq a b ≡ nat_eq b a
eq-sym a b = grind (arith, nat_tests)

ends_eq-sym : (a b : Ends) → ends_eq a b ≡ ends_eq b a
ends_eq-sym a b = rw (eq-sym a.from b.from, eq-sym a.from_iface b.from_iface, eq-sym a.to b.to, eq-sym a.to_iface b.to_iface)

any_front : {A : Type 0} (p : A → Bool) (xs ys : List A) → list_any p (xs ++ ys) ≡ false → list_any p xs ≡ false
any_front p xs ys h = grind (arith, list_any-append p xs ys, h)

any_last : {A : Type 0} (p : A → Bool) (xs : List A) (x : A) → list_any p (xs ++ x ∷ []) ≡ false → p x ≡ false
any_last p xs x h = grind (arith, list_any-append p xs (x ∷ []), h)

none_of : (es : List Ends) → whole_list [] ≡ Ok es → [] ≡ es
none_of es h = cc

pub joins_range : (routers : List Identifiers) (earlier : List Ends) (arcs : List (NamedInterface × NamedInterface)) (es : List Ends) → joins routers earlier arcs ≡ Ok es
    → list_all (joins_routers (map (λ (n : Identifiers). length n.interface_names) routers)) es ≡ true
joins_range routers earlier [] es h = rw (← none_of es h)
joins_range routers earlier (arc ∷ arcs) es h =
    let parts = joins_more routers earlier arc arcs es h in
    let e = parts.0 in let xs = parts.1.0 in
    rw (parts.1.1.1.1, (joined_ok routers earlier arc e parts.1.1.0).in_range, joins_range routers (earlier ++ e ∷ []) arcs xs parts.1.1.1.0)

joins_fresh : (routers : List Identifiers) (earlier : List Ends) (arcs : List (NamedInterface × NamedInterface)) (es : List Ends) (x : Ends) → ((y : Ends) → list_any (ends_eq y) earlier ≡ false → ends_eq y x ≡ false)
    → joins routers earlier arcs ≡ Ok es → list_any (ends_eq x) es ≡ false
joins_fresh routers earlier [] es x apart h = rw (← none_of es h)
joins_fresh routers earlier (arc ∷ arcs) es x apart h =
    let parts = joins_more routers earlier arc arcs es h in
    let e = parts.0 in let xs = parts.1.0 in
    let here : ends_eq x e ≡ false = ends_eq-sym x e ∙ apart e (joined_ok routers earlier arc e parts.1.1.0).new in
    rw (parts.1.1.1.1, here, joins_fresh routers (earlier ++ e ∷ []) arcs xs x (λ y none. apart y (any_front (ends_eq y) earlier (e ∷ []) none)) parts.1.1.1.0)

distinct_from : (routers : List Identifiers) (earlier : List Ends) (arcs : List (NamedInterface × NamedInterface)) (es : List Ends) → joins routers earlier arcs ≡ Ok es → are_distinct ends_eq es ≡ true
distinct_from routers earlier [] es h = rw (← none_of es h)
distinct_from routers earlier (arc ∷ arcs) es h =
    let parts = joins_more routers earlier arc arcs es h in
    let e = parts.0 in let xs = parts.1.0 in
    let alone : list_any (ends_eq e) xs ≡ false = joins_fresh routers (earlier ++ e ∷ []) arcs xs e (λ y none. any_last (ends_eq y) earlier e none) parts.1.1.1.0 in
    rw (parts.1.1.1.1, alone, distinct_from routers (earlier ++ e ∷ []) arcs xs parts.1.1.1.0)

pub joins_distinct : (routers : List Identifiers) (arcs : List (NamedInterface × NamedInterface)) (es : List Ends) → joins routers [] arcs ≡ Ok es → are_distinct ends_eq es ≡ true
joins_distinct routers arcs es h = distinct_from routers [] arcs es h
