-- Settings out of what their tables state.
use Rattle.mesh_config.proofs.Common.{common_steps, ◌≡◌, ℕ, ◌+◌, ◌<◌, suc, List, [], ◌∷◌, ◌++◌, map, length, get_or, take, codes, zero, Bool, true, not, All, None, refl, sym, ap, ◌∙◌, subst, arith, list_all, list_any, flat_map, list_all-map, list_any-append, flat_map-map, and_parts, map-append, length-map, map-map, Attached4, Interface, addr_eq, net_eq, are_distinct, is_host, name_eq, StatedRouter, StatedInterface, first, duplicate_unless, same_router, same_interface, same_attached, router_addrs, all_addrs, attaches_no_host, stated_duplicates, interface_fields, IsClear, AreOfOneRouter, InterfaceFields, stated_interface_fields, EachAt, back_distinct, front_distinct}
use Rattle.std.proofs.lemmas.List.Elements.{All-nil, All-cons}
use Rattle.mesh_config.proofs.ChecksLemmas.Links.{are_distinct-map}
use Rattle.mesh_config.proofs.KeysLemmas.Elements.{map_take}

-- one more
pub each_more : {X : Type 0} (Has : ℕ → X → Type 0) (i n : ℕ) (xs : List X) (x : X) → EachAt Has i xs → i + length xs ≡ n → Has n x → EachAt Has i (xs ++ x ∷ [])
each_more Has i n [] x all here one = grind (arith, common_steps)
each_more Has i n (y ∷ ys) x all here one =
    let at : (i + 1) + length ys ≡ n = omega (arith, here) in
    (all.0, each_more Has (i + 1) n ys x all.1 at one)

-- ---- what holds of all holds of a part
none_parts : {A : Type 0} (p : A → Bool) (xs ys : List A) → not (list_any p (xs ++ ys)) ≡ true → (not (list_any p xs) ≡ true) × (not (list_any p ys) ≡ true)
none_parts p xs ys h = (grind (arith, list_any-append p xs ys, h), grind (arith, list_any-append p xs ys, h))

distinct_part : {A B : Type 0} (eq : B → B → Bool) (f : A → List B) (xs : List A) (i : ℕ) (d : A) → i < length xs → are_distinct eq (flat_map f xs) ≡ true → are_distinct eq (f (get_or xs i d)) ≡ true
distinct_part eq f [] i d within h = absurd (omega arith)
distinct_part eq f (x ∷ xs) zero d within h = front_distinct eq (f x) (flat_map f xs) h
distinct_part eq f (x ∷ xs) (suc i) d within h = distinct_part eq f xs i d (omega arith) (back_distinct eq (f x) (flat_map f xs) h)

none_part : {A B : Type 0} (p : B → Bool) (f : A → List B) (xs : List A) (i : ℕ) (d : A) → i < length xs → not (list_any p (flat_map f xs)) ≡ true → not (list_any p (f (get_or xs i d))) ≡ true
none_part p f [] i d within h = absurd (omega arith)
none_part p f (x ∷ xs) zero d within h = (none_parts p (f x) (flat_map f xs) h).0
none_part p f (x ∷ xs) (suc i) d within h = none_part p f xs i d (omega arith) (none_parts p (f x) (flat_map f xs) h).1

pub all_at : {A : Type 0} (p : A → Bool) (xs : List A) (i : ℕ) (d : A) → i < length xs → list_all p xs ≡ true → p (get_or xs i d) ≡ true
all_at p [] i d within h = absurd (omega arith)
all_at p (x ∷ xs) zero d within h = (and_parts (p x) (list_all p xs) h).0
all_at p (x ∷ xs) (suc i) d within h = all_at p xs i d (omega arith) (and_parts (p x) (list_all p xs) h).1

all_weaker : {A : Type 0} (p q : A → Bool) → ((x : A) → p x ≡ true → q x ≡ true) → (xs : List A) → list_all p xs ≡ true → list_all q xs ≡ true
all_weaker p q h [] all = refl
all_weaker p q h (x ∷ xs) all =
    let parts = and_parts (p x) (list_all p xs) all in
    rw (h x parts.0, all_weaker p q h xs parts.1)

-- ---- no fault among the checks
pub record Passed (a b c d e : Bool) : Type 0 where
  pub in_first : a ≡ true
  pub in_second : b ≡ true
  pub in_third : c ≡ true
  pub in_fourth : d ≡ true
  pub in_fifth : e ≡ true

pub all_passed : (a b c d e : Bool) → first (duplicate_unless a (codes "name") ∷ duplicate_unless b (codes "name") ∷ duplicate_unless c (codes "addresses") ∷ duplicate_unless d (codes "net") ∷ duplicate_unless e (codes "net") ∷ []) ≡ None → Passed a b c d e
all_passed a b c d e h = grind (arith, common_steps)

pub stated_passed : (rs : List StatedRouter) → first (stated_duplicates rs) ≡ None
    → Passed (are_distinct same_router rs) (list_all (λ r. are_distinct same_interface r.interfaces) rs) (are_distinct addr_eq (all_addrs rs)) (list_all (λ r. are_distinct same_attached r.attached) rs) (list_all (attaches_no_host (all_addrs rs)) rs)
stated_passed rs h = grind (arith, common_steps, all_passed, same_router)

pub clear_at : (rs : List StatedRouter) (i : ℕ) (d : StatedRouter) → i < length rs → first (stated_duplicates rs) ≡ None → IsClear (get_or rs i d)
clear_at rs i d within none =
    let p = stated_passed rs none in
    record {
      names = all_at (λ (r : StatedRouter). are_distinct same_interface r.interfaces) rs i d within p.in_second;
      addrs = distinct_part addr_eq router_addrs rs i d within p.in_third;
      nets = all_at (λ (r : StatedRouter). are_distinct same_attached r.attached) rs i d within p.in_fourth;
      hosts =
          all_weaker (λ (a : Attached4). not (list_any (is_host a.net) (all_addrs rs))) (λ (a : Attached4). not (list_any (is_host a.net) (router_addrs (get_or rs i d))))
          (λ (a : Attached4). none_part (is_host a.net) router_addrs rs i d within) (get_or rs i d).attached (all_at (attaches_no_host (all_addrs rs)) rs i d within p.in_fifth);
    }

-- ---- one more of two lists that agree
pub maps_more : {A B C : Type 0} (f : A → C) (g : B → C) (xs : List A) (ys : List B) (i : ℕ) (x : A) (y : B) → y ≡ get_or ys i y → i < length ys
    → map f xs ≡ map g (take i ys) → f x ≡ g y → map f (xs ++ x ∷ []) ≡ map g (take (i + 1) ys)
maps_more f g xs ys i x y here within all one = map-append f xs (x ∷ []) ∙ (rw (all, one) (sym (map_take g ys i y here within)))

-- where all have one value, each has what holds of it
pub all_have : {X Y A : Type 0} (Holds : A → Type 0) (f : X → A) (a : A) (xs : List X) (ys : List Y) → map f xs ≡ map (λ y. a) ys → Holds a → All (λ x. Holds (f x)) xs
all_have {X} Holds f a [] ys same is = All-nil (λ (x : X). Holds (f x))
all_have Holds f a (x ∷ xs) [] same is = absurd cc
all_have {X} {Y} Holds f a (x ∷ xs) (y ∷ ys) same is =
    let here : f x ≡ a = cc in
    let rest : map f xs ≡ map (λ (y : Y). a) ys = cc in
    All-cons (λ (x : X). Holds (f x)) x xs (subst Holds (sym here) is) (all_have Holds f a xs ys rest is)

-- ---- what a router keeps
pub names_same : (xs : List Interface) (ys : List StatedInterface) → map interface_fields xs ≡ map stated_interface_fields ys → map (λ i. i.name) xs ≡ map (λ i. i.name) ys
names_same xs ys h = sym (map-map (λ (f : InterfaceFields). f.interface_name) interface_fields xs) ∙ (ap (map (λ (f : InterfaceFields). f.interface_name)) h ∙ map-map (λ (f : InterfaceFields). f.interface_name) stated_interface_fields ys)

pub flat_same : (xs : List Interface) (ys : List StatedInterface) → map interface_fields xs ≡ map stated_interface_fields ys → flat_map (λ i. i.addrs) xs ≡ flat_map (λ i. i.addrs) ys
flat_same xs ys h = sym (flat_map-map (λ (f : InterfaceFields). f.addrs) interface_fields xs) ∙ (ap (flat_map (λ (f : InterfaceFields). f.addrs)) h ∙ flat_map-map (λ (f : InterfaceFields). f.addrs) stated_interface_fields ys)

pub of_one_router : (d : StatedRouter) (faces : List Interface) (attached : List Attached4) → IsClear d → map interface_fields faces ≡ map stated_interface_fields d.interfaces → attached ≡ d.attached
    → AreOfOneRouter (map (λ i. i.name) faces) (flat_map (λ i. i.addrs) faces) (map (λ a. a.net) attached)
of_one_router d faces attached clear same nets =
    let names = names_same faces d.interfaces same in let addrs = flat_same faces d.interfaces same in
    rw (names, addrs, nets) (record {
      interfaces = rw length-map d.few_interfaces;
      attached = rw length-map d.few_attached;
      distinct_names = are_distinct-map name_eq (λ (i : StatedInterface). i.name) d.interfaces ∙ clear.names;
      distinct_addrs = clear.addrs;
      distinct_nets = are_distinct-map net_eq (λ (a : Attached4). a.net) d.attached ∙ clear.nets;
      no_hosts = list_all-map (λ net. not (list_any (is_host net) (router_addrs d))) (λ (a : Attached4). a.net) d.attached ∙ clear.hosts;
    })
