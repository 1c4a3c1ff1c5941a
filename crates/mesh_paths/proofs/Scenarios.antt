-- Each scenario is sound: its type keeps that addresses are distinct, that no network is a router's address, and what arcs join.
use Rattle.mesh_paths.proofs.Common.{common_steps, ◌≡◌, ◌≢◌, ℕ, zero, suc, ◌<◌, ◌≤◌, inl, inr, refl, sym, ◌∙◌, ap, subst, arith, List, [], ◌∷◌, map, length, Contains, slice_get, Some, Bool, true, not, nat_eq, nat_lt, slice_index, flat_map, list_all, list_any, eq-eqb, ltb-true, and_parts, or_left, or_right, Addr4, NetAddr, Metric, Interface, Attached4, RouterSettings, RadioArc, Scenario, host, addr_eq, Leads, Router, AddressOf, Attaches, IsSoundScenario, are_distinct, is_host, Ends, ends_eq, is_interface, HasAddressOn, IsOriginator, contains_cases, contains_map, first_item, contains_flat_map_at, back_distinct, contains_none as none_of, front_distinct, one_part, not_both, none_is_some}
use Rattle.mesh_atoms.proofs.Lookups.{addr_equiv}

-- Elements

all_of : {A : Type 0} (p : A → Bool) (xs : List A) (a : A) → list_all p xs ≡ true → Contains xs a → p a ≡ true
all_of p [] a h c = absurd (none_of a c)
all_of p (x ∷ xs) a h c = grind (arith, common_steps, contains_cases, and_parts, all_of p xs a)

pub any_of : {A : Type 0} (p : A → Bool) (xs : List A) (a : A) → p a ≡ true → Contains xs a → list_any p xs ≡ true
any_of p [] a h c = absurd (none_of a c)
any_of p (x ∷ xs) a h c = elim (contains_cases x xs a c) [
  | inl e ↦ or_left (p x) (list_any p xs) (subst (λ b. p b ≡ true) (sym e) h)
  | inr more ↦ or_right (p x) (list_any p xs) (any_of p xs a h more)
]

-- Distinct values

part_distinct : {A B : Type 0} (eq : B → B → Bool) (f : A → List B) (xs : List A) (k : ℕ) (u : A) → are_distinct eq (flat_map f xs) ≡ true → slice_get xs k ≡ Some u → are_distinct eq (f u) ≡ true
part_distinct eq f [] k u h at = none_is_some at
part_distinct eq f (x ∷ xs) zero u h at = let e : x ≡ u = cc in subst (λ b. are_distinct eq (f b) ≡ true) e (front_distinct eq (f x) (flat_map f xs) h)
part_distinct eq f (x ∷ xs) (suc k) u h at = part_distinct eq f xs k u (back_distinct eq (f x) (flat_map f xs) h) at

mapped_length : {A B : Type 0} (f : A → B) (xs : List A) → 1 ≤ length (map f xs) → 1 ≤ length xs
mapped_length f xs h = grind (arith, common_steps)

-- a number that counts says that there is one
counted : {A : Type 0} (count : A → ℕ) (xs : List A) (k n : ℕ) → nat_lt n (slice_index (map count xs) k) ≡ true → (x : A) × (slice_get xs k ≡ Some x) × (n < count x)
counted count [] k n h = absurd (let below : n < 0 = ltb-true n 0 h in omega arith)
counted count (x ∷ xs) zero n h = (x, refl, ltb-true n (count x) h)
counted count (x ∷ xs) (suc k) n h = counted count xs k n h

-- The scenario

abbrev pub ends_of : RadioArc → Ends
ends_of a = record { from = a.from; from_iface = a.from_iface; to = a.to; to_iface = a.to_iface }

pub same_ends : (a b : RadioArc) → a.from ≡ b.from → a.from_iface ≡ b.from_iface → a.to ≡ b.to → a.to_iface ≡ b.to_iface → ends_eq (ends_of a) (ends_of b) ≡ true
same_ends a b e f g h = rw (eq-eqb a.from b.from e, eq-eqb a.from_iface b.from_iface f, eq-eqb a.to b.to g, eq-eqb a.to_iface b.to_iface h) refl

one_arc : (xs : List RadioArc) (a b : RadioArc) → are_distinct ends_eq (map ends_of xs) ≡ true → Contains xs a → Contains xs b →
    ends_eq (ends_of a) (ends_of b) ≡ true → ends_eq (ends_of b) (ends_of a) ≡ true → a ≡ b
one_arc [] a b h c d there back = absurd (none_of a c)
one_arc (x ∷ xs) a b h c d there back =
    let (new, rest) = and_parts (not (list_any (ends_eq (ends_of x)) (map ends_of xs))) (are_distinct ends_eq (map ends_of xs)) h in
    elim (contains_cases x xs a c) [
      | inl e ↦ elim (contains_cases x xs b d) [
        | inl f ↦ sym e ∙ f
        | inr more ↦ absurd (not_both (list_any (ends_eq (ends_of x)) (map ends_of xs)) (any_of (ends_eq (ends_of x)) (map ends_of xs) (ends_of b) (subst (λ y. ends_eq (ends_of y) (ends_of b) ≡ true) (sym e) there) (contains_map ends_of xs b more)) new)
      ]
      | inr more ↦ elim (contains_cases x xs b d) [
        | inl f ↦ absurd (not_both (list_any (ends_eq (ends_of x)) (map ends_of xs)) (any_of (ends_eq (ends_of x)) (map ends_of xs) (ends_of a) (subst (λ y. ends_eq (ends_of y) (ends_of a) ≡ true) (sym f) back) (contains_map ends_of xs a more)) new)
        | inr other ↦ one_arc xs a b rest more other there back
      ]
    ]

abbrev addrs_of : RouterSettings → List Addr4
addrs_of r = flat_map (λ i. i.addrs) r.interfaces

abbrev nets_of : RouterSettings → List NetAddr
nets_of r = map (λ a. a.net) r.attached

address_in : (r : RouterSettings) (i : ℕ) (a : Addr4) → HasAddressOn r i a → Contains (addrs_of r) a
address_in r i a on = contains_flat_map_at (λ (f : Interface). f.addrs) r.interfaces i on.0 a on.1 on.2

one_owner : (s : Scenario) (x y i j : ℕ) (r q : RouterSettings) (a : Addr4) → Router s x r → Router s y q → HasAddressOn r i a → HasAddressOn q j a → (x ≡ y) × (i ≡ j)
one_owner s x y i j r q a at to on from =
    let whole : are_distinct addr_eq (flat_map addrs_of s.routers) ≡ true = s.sound_routers.distinct_addrs in
    let same : x ≡ y = one_part addr_equiv addrs_of s.routers x y r q a whole at to (address_in r i a on) (address_in q j a from) in
    let there : slice_get s.routers x ≡ Some q = subst (λ b. slice_get s.routers b ≡ Some q) (sym same) to in
    let is : q ≡ r = cc in
    let here : HasAddressOn r j a = subst (λ b. HasAddressOn b j a) is from in
    let own : are_distinct addr_eq (addrs_of r) ≡ true = part_distinct addr_eq addrs_of s.routers x r whole at in
    (same, one_part addr_equiv (λ (f : Interface). f.addrs) r.interfaces i j on.0 here.0 a own on.1 here.1 on.2 here.2)

no_host : (s : Scenario) (x y c : ℕ) (net : NetAddr) (a : Addr4) → Attaches s x net c → AddressOf s y a → net ≢ host a
no_host s x y c net a attached of_y e =
    let (r, at, t, stands, is, _) = attached in
    let (q, to, (j, on)) = of_y in
    let nets : List NetAddr = flat_map nets_of s.routers in
    let addrs : List Addr4 = flat_map addrs_of s.routers in
    let in_nets : Contains nets t.net = contains_flat_map_at nets_of s.routers x r t.net at (contains_map (λ (b : Attached4). b.net) r.attached t stands) in
    let in_addrs : Contains addrs a = contains_flat_map_at addrs_of s.routers y q a to (address_in q j a on) in
    let none : not (list_any (is_host t.net) addrs) ≡ true = all_of (λ n. not (list_any (is_host n) addrs)) nets t.net s.sound_routers.no_hosts in_nets in
    let same : t.net ≡ host a = is ∙ e in
    let yes : is_host t.net a ≡ true = subst (λ n. is_host n a ≡ true) (sym same) (eq-eqb a.0 a.0 refl) in
    absurd (not_both (list_any (is_host t.net) addrs) (any_of (is_host t.net) addrs a yes in_addrs) none)

originator : (s : Scenario) (x : ℕ) (r : RouterSettings) → Router s x r → (a : Addr4) × IsOriginator r a
originator s x r at =
    let (face, first) = first_item r.interfaces (mapped_length (λ (i : Interface). i.name) r.interfaces r.sound.interfaces.at_least) in
    let (a, is) = first_item face.addrs face.sound.few.at_least in
    (a, (face, first, is))

arc_ends : (s : Scenario) (x i y j : ℕ) (m : Metric) → Leads s x i y j m → (x ≢ y) × ((r : RouterSettings) × Router s x r) × ((q : RouterSettings) × Router s y q)
arc_ends s x i y j m leads =
    let (arc, stands, from, from_iface, to, to_iface, _) = leads in
    let counts : List ℕ = map (λ (r : RouterSettings). length r.interfaces) s.routers in
    let joins = all_of _ (map ends_of s.arcs) (ends_of arc) s.sound_arcs.join_routers (contains_map ends_of s.arcs arc stands) in
    let (first, rest) = and_parts (is_interface counts arc.from arc.from_iface) _ joins in
    let (second, other) = and_parts (is_interface counts arc.to arc.to_iface) (not (nat_eq arc.from arc.to)) rest in
    let out = counted (λ (r : RouterSettings). length r.interfaces) s.routers arc.from arc.from_iface first in
    let home = counted (λ (r : RouterSettings). length r.interfaces) s.routers arc.to arc.to_iface second in (
      (λ e. absurd (not_both (nat_eq arc.from arc.to) (eq-eqb arc.from arc.to (from ∙ (e ∙ sym to))) other)),
      (out.0, subst (λ b. slice_get s.routers b ≡ Some out.0) from out.1),
      (home.0, subst (λ b. slice_get s.routers b ≡ Some home.0) to home.1),
    )

-- an arc leads to an interface of a router
pub arc_leads_to : (s : Scenario) (arc : RadioArc) → Contains s.arcs arc → (q : RouterSettings) × Router s arc.to q × (arc.to_iface < length q.interfaces)
arc_leads_to s arc stands =
    let counts : List ℕ = map (λ (r : RouterSettings). length r.interfaces) s.routers in
    let joins = all_of _ (map ends_of s.arcs) (ends_of arc) s.sound_arcs.join_routers (contains_map ends_of s.arcs arc stands) in
    let (first, rest) = and_parts (is_interface counts arc.from arc.from_iface) _ joins in
    let (second, other) = and_parts (is_interface counts arc.to arc.to_iface) (not (nat_eq arc.from arc.to)) rest in
    counted (λ (r : RouterSettings). length r.interfaces) s.routers arc.to arc.to_iface second

one_metric : (s : Scenario) (x i y j : ℕ) (m n : Metric) → Leads s x i y j m → Leads s x i y j n → m ≡ n
one_metric s x i y j m n first second =
    let (a, a_stands, a_from, a_from_iface, a_to, a_to_iface, a_metric) = first in
    let (b, b_stands, b_from, b_from_iface, b_to, b_to_iface, b_metric) = second in
    let there = same_ends a b (a_from ∙ sym b_from) (a_from_iface ∙ sym b_from_iface) (a_to ∙ sym b_to) (a_to_iface ∙ sym b_to_iface) in
    let back = same_ends b a (b_from ∙ sym a_from) (b_from_iface ∙ sym a_from_iface) (b_to ∙ sym a_to) (b_to_iface ∙ sym a_to_iface) in
    let same : a ≡ b = one_arc s.arcs a b s.sound_arcs.distinct a_stands b_stands there back in
    sym a_metric ∙ (ap (λ (c : RadioArc). c.metric) same ∙ b_metric)

pub sound_scenario : (s : Scenario) → IsSoundScenario s
sound_scenario s = record { addresses = one_owner s; networks = no_host s; originators = originator s; ends = arc_ends s; arcs = one_metric s }
