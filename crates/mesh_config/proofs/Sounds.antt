-- What a scenario keeps.
use Rattle.mesh_config.proofs.Common.{◌≡◌, ◌≤◌, List, [], ◌∷◌, map, length, Bool, not, None, Ok, refl, sym, ap, ◌∙◌, list_all, list_any, flat_map, length-map, list_all-map, list_all-append, flat_map-map, map-map, Attached4, RadioArc, RouterSettings, Times, is_host, name_eq, AreRouters, AreArcs, IsCount, StatedRouter, first, Identifiers, NamedInterface, joins, router_addrs, all_addrs, attaches_no_host, stated_duplicates, stated_identifiers, stated_lists, ends_of, interface_fields, RouterParts, settings_parts, stated_parts, InterfaceFields, stated_interface_fields, addr_lists}
use Rattle.mesh_atoms.specs.declared.addr.NetAddr.{NetAddr}
use Rattle.mesh_config.proofs.ChecksLemmas.Links.{are_distinct-map, all_same}
use Rattle.mesh_config.proofs.JoinFacts.{joins_range, joins_distinct}
use Rattle.mesh_config.proofs.Builds.{stated_passed}

-- a function of the settings_parts fields, of all
over_parts : {B : Type 0} (F : RouterParts → B) (times : Times) (ss : List RouterSettings) (rs : List StatedRouter) → map settings_parts ss ≡ map (stated_parts times) rs
    → map (λ s. F (settings_parts s)) ss ≡ map (λ r. F (stated_parts times r)) rs
over_parts F times ss rs h = sym (map-map F settings_parts ss) ∙ (ap (map F) h ∙ map-map F (stated_parts times) rs)

flat_parts : {B : Type 0} (F : RouterParts → List B) (times : Times) (ss : List RouterSettings) (rs : List StatedRouter) → map settings_parts ss ≡ map (stated_parts times) rs
    → flat_map (λ s. F (settings_parts s)) ss ≡ flat_map (λ r. F (stated_parts times r)) rs
flat_parts F times ss rs h = sym (flat_map-map F settings_parts ss) ∙ (ap (flat_map F) h ∙ flat_map-map F (stated_parts times) rs)

map_congr : {A B : Type 0} (f g : A → B) → ((x : A) → f x ≡ g x) → (xs : List A) → map f xs ≡ map g xs
map_congr f g h [] = refl
map_congr f g h (x ∷ xs) = rw (h x, map_congr f g h xs)

flat_congr : {A B : Type 0} (f g : A → List B) → ((x : A) → f x ≡ g x) → (xs : List A) → flat_map f xs ≡ flat_map g xs
flat_congr f g h [] = refl
flat_congr f g h (x ∷ xs) = rw (h x, flat_congr f g h xs)

all_flat : {A B : Type 0} (p : B → Bool) (f : A → List B) (xs : List A) → list_all p (flat_map f xs) ≡ list_all (λ x. list_all p (f x)) xs
all_flat p f [] = refl
all_flat p f (x ∷ xs) = list_all-append p (f x) (flat_map f xs) ∙ rw (all_flat p f xs)

-- the addresses of each interface
pub lists_same : (times : Times) (ss : List RouterSettings) (rs : List StatedRouter) → map settings_parts ss ≡ map (stated_parts times) rs → addr_lists ss ≡ stated_lists rs
lists_same times ss rs h =
    map_congr (λ (s : RouterSettings). map (λ i. i.addrs) s.interfaces) (λ (s : RouterSettings). map (λ (f : InterfaceFields). f.addrs) (map interface_fields s.interfaces)) (λ s. sym (map-map (λ (f : InterfaceFields). f.addrs) interface_fields s.interfaces)) ss
    ∙ (over_parts (λ (p : RouterParts). map (λ (f : InterfaceFields). f.addrs) p.interfaces) times ss rs h
    ∙ map_congr (λ (r : StatedRouter). map (λ (f : InterfaceFields). f.addrs) (map stated_interface_fields r.interfaces)) (λ (r : StatedRouter). map (λ i. i.addrs) r.interfaces) (λ r. map-map (λ (f : InterfaceFields). f.addrs) stated_interface_fields r.interfaces) rs)

pub all_addrs_same : (times : Times) (ss : List RouterSettings) (rs : List StatedRouter) → map settings_parts ss ≡ map (stated_parts times) rs → flat_map (λ (s : RouterSettings). flat_map (λ i. i.addrs) s.interfaces) ss ≡ all_addrs rs
all_addrs_same times ss rs h =
    flat_congr (λ (s : RouterSettings). flat_map (λ i. i.addrs) s.interfaces) (λ (s : RouterSettings). flat_map (λ (f : InterfaceFields). f.addrs) (map interface_fields s.interfaces)) (λ s. sym (flat_map-map (λ (f : InterfaceFields). f.addrs) interface_fields s.interfaces)) ss
    ∙ (flat_parts (λ (p : RouterParts). flat_map (λ (f : InterfaceFields). f.addrs) p.interfaces) times ss rs h
    ∙ flat_congr (λ (r : StatedRouter). flat_map (λ (f : InterfaceFields). f.addrs) (map stated_interface_fields r.interfaces)) router_addrs (λ r. flat_map-map (λ (f : InterfaceFields). f.addrs) stated_interface_fields r.interfaces) rs)

pub counts_same : (times : Times) (ss : List RouterSettings) (rs : List StatedRouter) → map settings_parts ss ≡ map (stated_parts times) rs
    → map (λ (s : RouterSettings). length s.interfaces) ss ≡ map (λ (n : Identifiers). length n.interface_names) (map stated_identifiers rs)
counts_same times ss rs h =
    map_congr (λ (s : RouterSettings). length s.interfaces) (λ (s : RouterSettings). length (map interface_fields s.interfaces)) (λ s. rw length-map) ss
    ∙ (over_parts (λ (p : RouterParts). length p.interfaces) times ss rs h
    ∙ (map_congr (λ (r : StatedRouter). length (map stated_interface_fields r.interfaces)) (λ (r : StatedRouter). length (map (λ i. i.name) r.interfaces)) (λ r. rw (length-map, length-map)) rs
    ∙ sym (map-map (λ (n : Identifiers). length n.interface_names) stated_identifiers rs)))

pub sound_routers : (times : Times) (ss : List RouterSettings) (rs : List StatedRouter) → IsCount 1 64 (length rs) → first (stated_duplicates rs) ≡ None → map settings_parts ss ≡ map (stated_parts times) rs
    → AreRouters (map (λ r. r.name) ss) (flat_map (λ r. flat_map (λ i. i.addrs) r.interfaces) ss) (flat_map (λ r. map (λ a. a.net) r.attached) ss)
sound_routers times ss rs count none same =
    let passed = stated_passed rs none in
    let names : map (λ (s : RouterSettings). s.name) ss ≡ map (λ (r : StatedRouter). r.head.name) rs = over_parts (λ (p : RouterParts). p.fields.router_name) times ss rs same in
    let nets : flat_map (λ (s : RouterSettings). map (λ a. a.net) s.attached) ss ≡ flat_map (λ (r : StatedRouter). map (λ a. a.net) r.attached) rs =
    flat_parts (λ (p : RouterParts). map (λ a. a.net) p.attached) times ss rs same in
    let free : NetAddr → Bool = λ net. not (list_any (is_host net) (all_addrs rs)) in
    let hosts : list_all free (flat_map (λ (r : StatedRouter). map (λ a. a.net) r.attached) rs) ≡ list_all (attaches_no_host (all_addrs rs)) rs =
    all_flat free (λ (r : StatedRouter). map (λ a. a.net) r.attached) rs
    ∙ all_same (λ (r : StatedRouter). list_all free (map (λ a. a.net) r.attached)) (attaches_no_host (all_addrs rs)) (λ r. list_all-map free (λ (a : Attached4). a.net) r.attached) rs in
    rw (names, all_addrs_same times ss rs same, nets) (record {
      routers = rw length-map count;
      distinct_names = are_distinct-map name_eq (λ (r : StatedRouter). r.head.name) rs ∙ passed.in_first;
      distinct_addrs = passed.in_third;
      no_hosts = hosts ∙ passed.in_fifth;
    })

-- ---- the arcs
pub sound_arcs : (times : Times) (ss : List RouterSettings) (rs : List StatedRouter) (places : List (NamedInterface × NamedInterface)) (arcs : List RadioArc) → map settings_parts ss ≡ map (stated_parts times) rs → length arcs ≤ 4096
    → joins (map stated_identifiers rs) [] places ≡ Ok (map ends_of arcs) → AreArcs (map (λ r. length r.interfaces) ss) (map ends_of arcs)
sound_arcs times ss rs places arcs same few h =
    rw (counts_same times ss rs same) (record {
      few = rw length-map few;
      join_routers = joins_range (map stated_identifiers rs) [] places (map ends_of arcs) h;
      distinct = joins_distinct (map stated_identifiers rs) places (map ends_of arcs) h;
    })
