-- What the tables state is what the checks look at.
use Rattle.mesh_config.proofs.Common.{arith, common_steps, ◌≡◌, ℕ, ◌+◌, List, [], ◌∷◌, map, position, Bool, not, codes, Option, Some, option_map, refl, sym, ◌∙◌, list_all, list_any, flat_map, slice_get, position_from, list_all-map, flat_map-map, slice_get-map, position_from-zero, name_eq, are_distinct, StatedRouter, StatedInterface, Fault, ◌>>=◌, Identifiers, NamedInterface, duplicates, duplicate_unless, find_place, same_interface, same_attached, all_addrs, attaches_no_host, stated_duplicates, stated_identifiers, stated_place}
use Rattle.mesh_config.specs.Checks.Checks as checks

list_any-map : {A B : Type 0} (p : B → Bool) (f : A → B) (xs : List A) → list_any p (map f xs) ≡ list_any (λ x. p (f x)) xs
list_any-map p f [] = refl
list_any-map p f (x ∷ xs) = rw (list_any-map p f xs)

pub are_distinct-map : {A B : Type 0} (eq : B → B → Bool) (f : A → B) (xs : List A) → are_distinct eq (map f xs) ≡ are_distinct (λ a b. eq (f a) (f b)) xs
are_distinct-map eq f [] = refl
are_distinct-map eq f (x ∷ xs) = rw (list_any-map (eq (f x)) f xs, are_distinct-map eq f xs)

pub all_same : {A : Type 0} (p q : A → Bool) → ((x : A) → p x ≡ q x) → (xs : List A) → list_all p xs ≡ list_all q xs
all_same p q h [] = refl
all_same p q h (x ∷ xs) = rw (h x, all_same p q h xs)

position_from-map : {A B : Type 0} (p : B → Bool) (f : A → B) (i : ℕ) (xs : List A) → position_from p i (map f xs) ≡ position_from (λ x. p (f x)) i xs
position_from-map p f i [] = refl
position_from-map p f i (x ∷ xs) = rw (position_from-map p f (i + 1) xs)

position-map : {A B : Type 0} (p : B → Bool) (f : A → B) (xs : List A) → position p (map f xs) ≡ position (λ x. p (f x)) xs
position-map p f xs = position_from-zero p (map f xs) ∙ (position_from-map p f 0 xs ∙ sym (position_from-zero (λ x. p (f x)) xs))

-- the five checks
abbrev list_of : Bool → Bool → Bool → Bool → Bool → List (Option Fault)
list_of a b c d e = duplicate_unless a (codes "name") ∷ duplicate_unless b (codes "name") ∷ duplicate_unless c (codes "addresses") ∷ duplicate_unless d (codes "net") ∷ duplicate_unless e (codes "net") ∷ []

list_same : (a b c d e a' b' c' d' e' : Bool) → a ≡ a' → b ≡ b' → c ≡ c' → d ≡ d' → e ≡ e' → list_of a b c d e ≡ list_of a' b' c' d' e'
list_same a b c d e a' b' c' d' e' p q r s t = rw (p, q, r, s, t)

ifaces_same : (rs : List StatedRouter) → list_all (λ (r : Identifiers). are_distinct name_eq r.interface_names) (map stated_identifiers rs) ≡ list_all (λ r. are_distinct same_interface r.interfaces) rs
ifaces_same rs =
    list_all-map (λ (r : Identifiers). are_distinct name_eq r.interface_names) stated_identifiers rs
    ∙ all_same _ (λ r. are_distinct same_interface r.interfaces) (λ r. are_distinct-map name_eq (λ (i : StatedInterface). i.name) r.interfaces) rs

nets_same : (rs : List StatedRouter) → list_all (λ (r : Identifiers). are_distinct checks.same_net r.nets) (map stated_identifiers rs) ≡ list_all (λ r. are_distinct same_attached r.attached) rs
nets_same rs =
    list_all-map (λ (r : Identifiers). are_distinct checks.same_net r.nets) stated_identifiers rs
    ∙ all_same _ (λ r. are_distinct same_attached r.attached) (λ r. are_distinct-map checks.same_net _ r.attached) rs

addrs_same : (rs : List StatedRouter) → flat_map (λ (r : Identifiers). r.addrs) (map stated_identifiers rs) ≡ all_addrs rs
addrs_same rs = flat_map-map (λ (r : Identifiers). r.addrs) stated_identifiers rs

hosts_same : (rs : List StatedRouter) → list_all (checks.attaches_none (flat_map (λ (r : Identifiers). r.addrs) (map stated_identifiers rs))) (map stated_identifiers rs) ≡ list_all (attaches_no_host (all_addrs rs)) rs
hosts_same rs =
    rw (addrs_same rs) (list_all-map (checks.attaches_none (all_addrs rs)) stated_identifiers rs
    ∙ all_same _ (attaches_no_host (all_addrs rs)) (λ r. list_all-map (λ n. not (list_any (checks.is_address n) (all_addrs rs))) _ r.attached) rs)

pub duplicates_same : (rs : List StatedRouter) → duplicates (map stated_identifiers rs) ≡ stated_duplicates rs
duplicates_same rs = grind (arith, common_steps, list_same, are_distinct-map, ifaces_same, addrs_same, nets_same, hosts_same)

-- a place looked up
abbrev both : ℕ → ℕ → Option (ℕ × ℕ)
both a b = Some (a, b)

iface_same : (p : NamedInterface) (router : ℕ) (found : Option StatedRouter)
    → (option_map stated_identifiers found >>= λ r. position (name_eq p.1) r.interface_names >>= λ iface. both router iface)
    ≡ (found >>= λ r. position (λ i. name_eq p.1 i.name) r.interfaces >>= λ iface. both router iface)
iface_same p router found = grind (arith, common_steps, position-map)

router_same : (rs : List StatedRouter) (p : NamedInterface) (found : Option ℕ)
    → (found >>= λ router. slice_get (map stated_identifiers rs) router >>= λ r. position (name_eq p.1) r.interface_names >>= λ iface. both router iface)
    ≡ (found >>= λ router. slice_get rs router >>= λ r. position (λ i. name_eq p.1 i.name) r.interfaces >>= λ iface. both router iface)
router_same rs p found = grind (arith, common_steps, slice_get-map, iface_same)

pub place_same : (rs : List StatedRouter) (p : NamedInterface) → find_place (map stated_identifiers rs) p ≡ stated_place rs p
place_same rs p = rw (position-map (λ (r : Identifiers). name_eq p.0 r.router_name) stated_identifiers rs) (router_same rs p (position (λ r. name_eq p.0 r.head.name) rs))

pub place_found : (rs : List StatedRouter) (called name : List ℕ) (at iface : ℕ) (r : StatedRouter) → Some at ≡ position (λ r. name_eq called r.head.name) rs → Some r ≡ slice_get rs at
    → Some iface ≡ position (λ i. name_eq name i.name) r.interfaces → Some (at, iface) ≡ stated_place rs (called, name)
place_found rs called name at iface r here is there = grind (arith, common_steps)
