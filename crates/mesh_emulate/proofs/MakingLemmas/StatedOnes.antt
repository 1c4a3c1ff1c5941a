-- The routers of a made scenario: their names and addresses, none of which stands twice.
use Rattle.mesh_emulate.proofs.Common.{common_steps, ◌≡◌, ℕ, zero, suc, ◌+◌, ◌<◌, ◌≤◌, true, false, None, List, [], ◌∷◌, map, length, codes, decimal, inl, inr, refl, ap, ◌∙◌, arith, slice_index, bytes_decides, flat_map, list_all, list_any, range_with_len, and_from, or_from, not_from_false, cases_Bool, append_cancel_left, length-map, Addr4, IsName, name_eq, are_distinct, same_router, same_interface, same_attached, router_addrs, all_addrs, attaches_no_host, stated_duplicates, stated_identifiers, name_of, addr_of, face_of, IsStated, AreStated, StatedRouter, stated_interface_fields, first}
use Rattle.std.proofs.lemmas.Fmt.{decimal_digit, decimal_injective, decimal_step}
use Rattle.mesh_atoms.specs.Base.{addr_eq}
use Rattle.mesh_config.specs.Checks.Checks.{Identifiers}
use Rattle.mesh_config.specs.declared.stated.stated.StatedInterface.{StatedInterface}

-- Names

pub name_is : (i : ℕ) → i < 64 → IsName (name_of i)
name_is i few = grind (arith, common_steps, decimal_digit, and_from, decimal_step)

names_differ : (i j : ℕ) → i < j → j < 64 → name_eq (name_of i) (name_of j) ≡ false
names_differ i j less few = elim (cases_Bool (name_eq (name_of i) (name_of j))) [
  | inl same ↦ absurd (
      let whole : name_of i ≡ name_of j = (bytes_decides (name_of i) (name_of j)).0 same in
      let digits : decimal i ≡ decimal j = append_cancel_left (codes "m") (decimal i) (decimal j) whole in
      omega (arith, decimal_injective i j (omega (arith, less, few)) (omega (arith, few)) digits, less))
  | inr other ↦ other
]

-- a router's name and address
module _ (i : ℕ) (d : StatedRouter) (is : IsStated i d) where
  one_face : (faces : List StatedInterface) → map stated_interface_fields faces ≡ face_of i ∷ [] →
      (are_distinct same_interface faces ≡ true) × (flat_map (λ f. f.addrs) faces ≡ addr_of i ∷ []) × (length faces ≡ 1)
  one_face [] e = absurd cc
  one_face (f ∷ []) e = grind (arith, common_steps)
  one_face (f ∷ g ∷ faces) e = absurd cc

  of_it : (are_distinct same_interface d.interfaces ≡ true) × (router_addrs d ≡ addr_of i ∷ []) × (length d.interfaces ≡ 1)
  of_it = one_face d.interfaces is.interfaces

-- no router behind another has its name
names_apart : (i j : ℕ) (d : StatedRouter) (ds : List StatedRouter) → IsStated i d → AreStated j ds → i < j → j + length ds ≤ 64 →
    list_any (same_router d) ds ≡ false
names_apart i j d [] one all less few = refl
names_apart i j d (e ∷ ds) one all less few = grind (arith, common_steps, same_router, names_differ, or_from, (names_apart i (j + 1) d ds one all.1 (omega (arith, less)) (omega (arith, few))))

distinct_names : (i : ℕ) (ds : List StatedRouter) → AreStated i ds → i + length ds ≤ 64 → are_distinct same_router ds ≡ true
distinct_names i [] all few = refl
distinct_names i (d ∷ ds) all few = grind (arith, common_steps, and_from, same_router, not_from_false, names_apart, (distinct_names (i + 1) ds all.1 (omega (arith, few))))

-- Addresses

-- the addresses of routers from number i on
all_addrs_are : (i : ℕ) (ds : List StatedRouter) → AreStated i ds → all_addrs ds ≡ map addr_of (range_with_len i (length ds))
all_addrs_are i [] all = refl
all_addrs_are i (d ∷ ds) all = rw ((of_it i d all.0).1, all_addrs_are (i + 1) ds all.1) refl

addrs_apart : (i j n : ℕ) → i < j → list_any (addr_eq (addr_of i)) (map addr_of (range_with_len j n)) ≡ false
addrs_apart i j zero less = refl
addrs_apart i j (suc n) less = grind (arith, common_steps, or_from, (addrs_apart i (j + 1) n (omega (arith, less))))

distinct_addrs : (i n : ℕ) → are_distinct addr_eq (map addr_of (range_with_len i n)) ≡ true
distinct_addrs i zero = refl
distinct_addrs i (suc n) = grind (arith, common_steps, and_from, not_from_false, addrs_apart, (distinct_addrs (i + 1) n))

-- Of each

faces_distinct : (i : ℕ) (ds : List StatedRouter) → AreStated i ds → list_all (λ r. are_distinct same_interface r.interfaces) ds ≡ true
faces_distinct i [] all = refl
faces_distinct i (d ∷ ds) all = grind (arith, common_steps, and_from, of_it, (faces_distinct (i + 1) ds all.1))

nets_distinct : (i : ℕ) (ds : List StatedRouter) → AreStated i ds → list_all (λ r. are_distinct same_attached r.attached) ds ≡ true
nets_distinct i [] all = refl
nets_distinct i (d ∷ ds) all = rw (all.0.attached, nets_distinct (i + 1) ds all.1) refl

no_hosts : (i : ℕ) (ds : List StatedRouter) (addrs : List Addr4) → AreStated i ds → list_all (attaches_no_host addrs) ds ≡ true
no_hosts i [] addrs all = refl
no_hosts i (d ∷ ds) addrs all = rw (all.0.attached, no_hosts (i + 1) ds addrs all.1) refl

pub stated_addrs : (ds : List StatedRouter) → AreStated 0 ds → are_distinct addr_eq (all_addrs ds) ≡ true
stated_addrs ds all = ap (are_distinct addr_eq) (all_addrs_are 0 ds all) ∙ distinct_addrs 0 (length ds)

pub stated_clear : (ds : List StatedRouter) → AreStated 0 ds → length ds ≤ 64 → first (stated_duplicates ds) ≡ None
stated_clear ds all few = grind (arith, common_steps, distinct_names, faces_distinct, stated_addrs, nets_distinct, no_hosts)

-- each has one interface
pub one_each : (i : ℕ) (ds : List StatedRouter) → AreStated i ds → (x : ℕ) → x < length ds →
    slice_index (map (λ (n : Identifiers). length n.interface_names) (map stated_identifiers ds)) x ≡ 1
one_each i [] all x within = absurd (omega (arith, within))
one_each i (d ∷ ds) all zero within = length-map d.interfaces (λ f. f.name) ∙ (of_it i d all.0).2
one_each i (d ∷ ds) all (suc x) within = one_each (i + 1) ds all.1 x (omega (arith, within))
