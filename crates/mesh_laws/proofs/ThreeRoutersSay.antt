-- What the HELLOs and the TCs of three routers in a row say.
use Rattle.mesh_laws.proofs.Common.{common_steps, ◌≡◌, ℕ, inl, inr, refl, sym, ◌∙◌, ap, subst, arith, List, [], map, Contains, Some, IsTrue, Addr4, Metric, Link, Neighbour, GivesAsSelector, Advertises, AdvertisesOriginator, AdvertisesNetwork, metric_value, Says, SaysSymmetric, HasLinkTo, Link_symmetric, Flooding, Routing, Near_in, Near_out, Symmetric as Is_symmetric, HasSymmetricWith, only, first_of, contains_map, contains_head as here, some_equal}
use Rattle.mesh_atoms.specs.declared.tuples.LinkState.{LinkState}
use Rattle.mesh_laws.proofs.Members.{unmapped}
use Rattle.mesh_laws.proofs.ThreeRouters.{one, addr, net, given, key, link, neighbour, peers, relays, middle_is, state, same_number, link_is, link_has, symmetric_is, symmetric_has}

-- HELLOs

-- a link with an address is a peer's
pub linked : (x j : ℕ) (a : Addr4) (is : LinkState) (l : Link) → HasLinkTo (state x) j 5 a is l → (j ≡ 0) × (y : ℕ) × Contains (peers x) y × (a ≡ addr y) × (l ≡ link x y)
linked x j a is l has = grind (arith, common_steps, link_is)

-- a symmetric neighbour with an address is a peer
pub near : (x : ℕ) (a o : Addr4) (n : Neighbour) → HasSymmetricWith (state x) a o n → (y : ℕ) × Contains (peers x) y × (a ≡ addr y) × (o ≡ addr y) × (n ≡ neighbour x y)
near x a o n (has, with) =
    let (y, c, e, same) = symmetric_is x o n has in
    let P : Neighbour → Type 0 = λ b. Contains b.addrs a in
    (y, c, only (addr y) a (subst P same with), e, same)

pub near_has : (x y : ℕ) → Contains (peers x) y → HasSymmetricWith (state x) (addr y) (addr y) (neighbour x y)
near_has x y c = (symmetric_has x y c, here (addr y) [])

pub symmetric_said : (x j : ℕ) (a : Addr4) → SaysSymmetric (state x) j 5 a → (y : ℕ) × Contains (peers x) y × (a ≡ addr y)
symmetric_said x j a says = elim says [
  | inl by_link ↦ let (l, has) = by_link in let (_, y, c, e, _) = linked x j a Is_symmetric l has in (y, c, e)
  | inr other ↦ let ((o, n, has), _) = other in let (y, c, e, _, _) = near x a o n has in (y, c, e)
]

pub says_symmetric : (x y : ℕ) → Contains (peers x) y → Says (state x) 0 5 (addr y) Link_symmetric
says_symmetric x y c = (link x y, (key y, link_has x y c, here (addr y) [], refl))

-- one of the chosen relays
chosen : (x y : ℕ) (o : Addr4) → o ≡ addr y → Contains (map addr (relays x)) o → Contains (relays x) y
chosen x y o e c = grind (arith, common_steps, unmapped, same_number)

pub flooding_said : (x j : ℕ) (a : Addr4) → Says (state x) j 5 a Flooding → (y : ℕ) × Contains (peers x) y × (a ≡ addr y) × Contains (relays x) y
flooding_said x j a says =
    let (l, to, o, n, b, has, with, list, at, among) = says in
    let (_, y, c, e, same) = linked x j a Is_symmetric l to in
    let (z, _, b_is, o_is, _) = near x b o n with in
    let P : Link → Type 0 = λ k. Contains k.addrs b in
    let y_z : y ≡ z = same_number y z (sym (only (addr y) b (subst P same has)) ∙ b_is) in
    let (_, is) = first_of (map addr (relays x)) list j at in
    let Q : List Addr4 → Type 0 = λ k. Contains k o in
    (y, c, e, chosen x y o (o_is ∙ ap addr (sym y_z)) (subst Q is among))

pub says_flooding : (x y : ℕ) → Contains (peers x) y → Contains (relays x) y → Says (state x) 0 5 (addr y) Flooding
says_flooding x y c among = (
  link x y,
  (key y, link_has x y c, here (addr y) [], refl),
  addr y,
  neighbour x y,
  addr y,
  here (addr y) [],
  near_has x y c,
  map addr (relays x),
  refl,
  contains_map addr (relays x) y among,
)

pub routing_said : (x j : ℕ) (a : Addr4) → Says (state x) j 5 a Routing → (y : ℕ) × Contains (peers x) y × (a ≡ addr y) × Contains (relays x) y
routing_said x j a says =
    let (o, n, has, among) = says in
    let (y, c, e, o_is, _) = near x a o n has in
    (y, c, e, chosen x y o o_is among)

pub says_routing : (x y j : ℕ) → Contains (peers x) y → Contains (relays x) y → Says (state x) j 5 (addr y) Routing
says_routing x y j c among = (addr y, neighbour x y, near_has x y c, contains_map addr (relays x) y among)

pub near_in_said : (x j : ℕ) (a : Addr4) (m : Metric) → Says (state x) j 5 a (Near_in m) → m ≡ one
near_in_said x j a m says = grind (arith, common_steps, some_equal)

pub near_out_said : (x j : ℕ) (a : Addr4) (m : Metric) → Says (state x) j 5 a (Near_out m) → m ≡ one
near_out_said x j a m says = grind (arith, common_steps, some_equal)

pub says_near_in : (x y j : ℕ) → Contains (peers x) y → Says (state x) j 5 (addr y) (Near_in one)
says_near_in x y j c = (addr y, neighbour x y, near_has x y c, refl)

pub says_near_out : (x y j : ℕ) → Contains (peers x) y → Says (state x) j 5 (addr y) (Near_out one)
says_near_out x y j c = (addr y, neighbour x y, near_has x y c, refl)

-- TCs

-- the middle router alone has selectors
pub gives_is : (x : ℕ) (a o : Addr4) (m : Metric) → GivesAsSelector (state x) a o m → (x ≡ 1) × (y : ℕ) × Contains (peers x) y × (a ≡ addr y) × (o ≡ addr y) × (m ≡ one)
gives_is x a o m g =
    let (y, c, e, same) = symmetric_is x o g.neighbour g.symmetric in
    let P : Neighbour → Type 0 = λ b. IsTrue b.selector in
    let Q : Neighbour → Type 0 = λ b. b.metric_out ≡ Some m in
    let R : Neighbour → Type 0 = λ b. Contains b.addrs a in
    let a_is : a ≡ addr y = elim g.address [ inl has ↦ only (addr y) a (subst R same has) | inr is ↦ is ∙ e ] in
    (middle_is x (subst P same g.selects), y, c, a_is, e, sym (some_equal _ _ (subst Q same g.metric)))

pub gives : (y : ℕ) → Contains (peers 1) y → GivesAsSelector (state 1) (addr y) (addr y) one
gives y c = record { neighbour = neighbour 1 y; symmetric = symmetric_has 1 y c; selects = refl; metric = refl; address = inr refl }

pub advertises : (y : ℕ) → Contains (peers 1) y → Advertises (state 1) (addr y) one
advertises y c = record {
  giver = addr y;
  given = gives y c;
  least = λ o n g. (let (_, _, _, _, _, is) = gives_is 1 (addr y) o n g in let e : metric_value n ≡ 1 = ap metric_value is in omega (arith, e));
}

pub advertises_is : (x : ℕ) (a : Addr4) (m : Metric) → Advertises (state x) a m → (x ≡ 1) × (y : ℕ) × Contains (peers x) y × (a ≡ addr y) × (m ≡ one)
advertises_is x a m row = let (e, y, c, is, _, same) = gives_is x a row.giver m row.given in (e, y, c, is, same)

pub advertises_originator : (y : ℕ) → Contains (peers 1) y → AdvertisesOriginator (state 1) (addr y)
advertises_originator y c = (one, gives y c)

two_one : ◌≡◌ {A = ℕ} 2 1 → ⊥
two_one e = absurd (omega arith)

pub advertises_network : AdvertisesNetwork (state 2) net 1 one
advertises_network = record {
  attached = given;
  stands = here given [];
  at_net = refl;
  at_distance = refl;
  at_metric = refl;
  no_address = λ a n row. absurd (two_one (advertises_is 2 a n row).0);
}
