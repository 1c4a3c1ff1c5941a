-- Three routers in a row are sound.
use Rattle.mesh_laws.proofs.Common.{common_steps, ◌≡◌, ℕ, zero, suc, ◌<◌, ◌≤◌, ◌≢◌, ◌⊎◌, inl, inr, refl, sym, ◌∙◌, ap, subst, arith, List, [], ◌∷◌, map, length, Contains, Option, Some, None, Bool, true, false, IsDistinct, Contains-from_lookup, Addr4, NetAddr, Metric, Attached4, TcRow, LinkKey, Link, TwoHopKey, TwoHop, Neighbour, Lost, AreTcRows, IsTcRow, Of_address, Of_network, AdvertisesOriginator, more_ascend, one_ascends, none_ascend, base_of, host, IsFresh, HasDistinctKeys, addr_eq, link_eq, two_hop_eq, network_eq, metric_value, HasSymmetricOf, IsByLinks, is_symmetric_at, admit_on, AreRoutes, IsWithin, IsSoundLink, IsSoundNeighbour, SoundNeighbourhood, SoundTopology, Sound, Neighbourhood, link_at, two_hop_at, neighbour_at, IsHeld, AreMoreThan, same_addr, same_link, same_two_hop, same_router, same_network, only, two, empty_within, empties_within, empty_distinct, contains_none as none_of, contains_head as here, none_is_some, some_equal}
use Rattle.mesh_atoms.proofs.Lookups.{same_address}
use Rattle.mesh_laws.proofs.Members.{each, unmapped, both_same}
use Rattle.mesh_laws.proofs.ThreeRouters.{one, addr, net, settings, peers, beyond, told, gateways, advertisers, key, link, link_entry, neighbour, neighbour_entry, two_hop_key, two_hop_entry, advertiser_entry, network_entry, host_row, net_row, rows, state, each_pair, same_number, address_on}
use Rattle.mesh_laws.proofs.ThreeRoutersInRange.{attached_is}
use Rattle.mesh_laws.proofs.ThreeRoutersSay.{advertises, advertises_is, advertises_originator, advertises_network}
use Rattle.mesh_laws.proofs.ThreeRoutersSettled.{own_originator}
use Rattle.mesh_laws.proofs.ThreeRoutersRelays.{relays_are}

-- Bases in which each tuple ends at 9

-- a base that is made so of a list of routers is fresh
fresh_of : {K V : Type 0} (eq : K → K → Bool) → ((k l : K) → eq k l ≡ true → k ≡ l) → (entry : ℕ → K × (V × ℕ)) → ((y : ℕ) → (entry y).1.1 ≡ 9) → (ys : List ℕ) → IsFresh eq 5 (map entry ys)
fresh_of {K} {V} eq same entry nine ys q value until found =
    let (y, _, is) = unmapped entry ys (q, (value, until)) (Contains-from_lookup same q (value, until) (map entry ys) found) in
    let ends : until ≡ 9 = ap (λ (t : K × (V × ℕ)). t.1.1) is ∙ nine y in
    rw ends refl

-- at most two routers, whose keys differ
abbrev IsFew : {K V : Type 0} → (K → K → Bool) → (ℕ → K × (V × ℕ)) → List ℕ → Type 0
IsFew eq entry [] = Unit {0}
IsFew eq entry (a ∷ []) = Unit {0}
IsFew eq entry (a ∷ b ∷ []) = eq (entry a).0 (entry b).0 ≡ false
IsFew eq entry (a ∷ b ∷ c ∷ rest) = ⊥

few_distinct : {K V : Type 0} (eq : K → K → Bool) (entry : ℕ → K × (V × ℕ)) (ys : List ℕ) → IsFew eq entry ys → HasDistinctKeys eq (map entry ys)
unfolding IsDistinct
few_distinct eq entry ys few = grind (arith, common_steps)

few_short : {K V : Type 0} (eq : K → K → Bool) (entry : ℕ → K × (V × ℕ)) (ys : List ℕ) → IsFew eq entry ys → length (map entry ys) ≤ 16384
few_short eq entry ys few = grind (arith, common_steps)

within_of : {K V : Type 0} (eq : K → K → Bool) → ((k l : K) → eq k l ≡ true → k ≡ l) → (entry : ℕ → K × (V × ℕ)) → ((y : ℕ) → (entry y).1.1 ≡ 9) → (ys : List ℕ) → IsFew eq entry ys → IsWithin eq 5 16384 (map entry ys)
within_of eq same entry nine ys few = record { distinct = few_distinct eq entry ys few; limit = few_short eq entry ys few; fresh = fresh_of eq same entry nine ys }

-- The neighbourhood

abbrev near : ℕ → Neighbourhood
near x = (state x).bases.neighbourhood

link_found : (x i : ℕ) (k : LinkKey) (e : Link × ℕ) → link_at (near x) i k ≡ Some e → (i ≡ 0) × (y : ℕ) × Contains (peers x) y × (k ≡ key y) × (e ≡ (link x y, 9))
link_found x zero k e h =
    let (y, c, is) = unmapped (link_entry x) (peers x) (k, e) (Contains-from_lookup same_link k e (map (link_entry x) (peers x)) h) in
    (refl, y, c, ap (λ (t : LinkKey × (Link × ℕ)). t.0) is, ap (λ (t : LinkKey × (Link × ℕ)). t.1) is)
link_found x (suc i) k e h = none_is_some h

link_there : (x y : ℕ) → Contains (peers x) y → link_at (near x) 0 (key y) ≡ Some (link x y, 9)
link_there = each_pair (λ x y. link_at (near x) 0 (key y) ≡ Some (link x y, 9)) refl refl refl refl

neighbour_found : (x : ℕ) (o : Addr4) (e : Neighbour × ℕ) → neighbour_at (near x) o ≡ Some e → (y : ℕ) × Contains (peers x) y × (o ≡ addr y) × (e ≡ (neighbour x y, 9))
neighbour_found x o e h =
    let (y, c, is) = unmapped (neighbour_entry x) (peers x) (o, e) (Contains-from_lookup same_addr o e (map (neighbour_entry x) (peers x)) h) in
    (y, c, ap (λ (t : Addr4 × (Neighbour × ℕ)). t.0) is, ap (λ (t : Addr4 × (Neighbour × ℕ)). t.1) is)

neighbour_there : (x y : ℕ) → Contains (peers x) y → neighbour_at (near x) (addr y) ≡ Some (neighbour x y, 9)
neighbour_there = each_pair (λ x y. neighbour_at (near x) (addr y) ≡ Some (neighbour x y, 9)) refl refl refl refl

two_hop_found : (x i : ℕ) (k : TwoHopKey) (t : TwoHop × ℕ) → two_hop_at (near x) i k ≡ Some t → (i ≡ 0) × (z : ℕ) × Contains (beyond x) z × (k ≡ two_hop_key z)
two_hop_found x zero k t h =
    let (z, c, is) = unmapped two_hop_entry (beyond x) (k, t) (Contains-from_lookup same_two_hop k t (map two_hop_entry (beyond x)) h) in
    (refl, z, c, ap (λ (u : TwoHopKey × (TwoHop × ℕ)). u.0) is)
two_hop_found x (suc i) k t h = none_is_some h

-- the SYMMETRIC link of a peer
link_of_peer : (x y : ℕ) (l : Link) → HasSymmetricOf (near x) 5 (addr y ∷ []) l → (z : ℕ) × (l ≡ link x z)
link_of_peer x y l has =
    let (i, k, until, (_, at), _) = has in
    let (_, z, _, _, is) = link_found x i k (l, until) at in
    (z, ap (λ (e : Link × ℕ). e.0) is)

symmetric_of : (x y : ℕ) → Contains (peers x) y → HasSymmetricOf (near x) 5 (addr y ∷ []) (link x y)
symmetric_of x y c = (0, key y, 9, (here (addr y) [], link_there x y c), refl)

by_links : (x y : ℕ) → Contains (peers x) y → IsByLinks (near x) 5 (neighbour x y) 9
by_links x y c = record {
  latest = (0, key y, link x y, (here (addr y) [], link_there x y c));
  no_later = λ i k l u has. (let (_, _, _, _, is) = link_found x i k (l, u) has.1 in let same : u ≡ 9 = ap (λ (e : Link × ℕ). e.1) is in omega (arith, same));
  symmetric = ((λ _. (link x y, symmetric_of x y c)), (λ _. refl));
  metric_in = (
    (link x y, symmetric_of x y c, refl),
    (λ m given.
        (let (l, has, is) = given in
        let (_, same) = link_of_peer x y l has in
        let cost : metric_value one ≡ metric_value m = ap metric_value (sym (ap (λ (b : Link). b.link_in) same) ∙ is) in
        omega (arith, cost))),
  );
  metric_out = (
    (link x y, symmetric_of x y c, refl),
    (λ m given.
        (let (l, has, is) = given in
        let (_, same) = link_of_peer x y l has in
        let cost : metric_value one ≡ metric_value m = ap metric_value (some_equal _ _ (sym (ap (λ (b : Link). b.link_out) same) ∙ is)) in
        omega (arith, cost))),
  );
}

held_is : (x : ℕ) (a : Addr4) → IsHeld (near x) a → (y : ℕ) × Contains (peers x) y × (a ≡ addr y)
held_is x a held = elim held [
  | inl originator ↦ let (y, c, e, _) = neighbour_found x a originator.0 originator.1 in (y, c, e)
  | inr (inl one_of) ↦
      let (o, n, until, at, has) = one_of in
      let (y, c, _, is) = neighbour_found x o (n, until) at in
      (y, c, only (addr y) a (subst (λ (b : Neighbour). Contains b.addrs a) (ap (λ (e : Neighbour × ℕ). e.0) is) has))
  | inr (inr lost) ↦ none_is_some lost.1
]

-- a router has at most two peers
two_peers : (x : ℕ) → (b c : ℕ) × ((y : ℕ) → Contains (peers x) y → (y ≡ b) ⊎ (y ≡ c))
two_peers zero = (1, 1, λ y h. inl (only 1 y h))
two_peers (suc zero) = (0, 2, λ y h. two 0 2 y h)
two_peers (suc (suc zero)) = (1, 1, λ y h. inl (only 1 y h))
two_peers (suc (suc (suc x))) = (0, 0, λ y h. absurd (none_of y h))

-- of three distinct addresses, not each is one of two
no_three : (b c x y z : Addr4) → addr_eq x y ≡ false → addr_eq x z ≡ false → addr_eq y z ≡ false → (x ≡ b) ⊎ (x ≡ c) → (y ≡ b) ⊎ (y ≡ c) → (z ≡ b) ⊎ (z ≡ c) → ⊥
no_three b c x y z xy xz yz = grind (arith, common_steps)

few_of_two : (b c : Addr4) (some : List Addr4) → IsDistinct addr_eq some → ((a : Addr4) → Contains some a → (a ≡ b) ⊎ (a ≡ c)) → 1024 < length some → ⊥
unfolding IsDistinct
few_of_two b c [] distinct all more = absurd (omega (arith, more))
few_of_two b c (x ∷ []) distinct all more = absurd (omega (arith, more))
few_of_two b c (x ∷ y ∷ []) distinct all more = absurd (omega (arith, more))
few_of_two b c (x ∷ y ∷ z ∷ rest) distinct all more =
    no_three b c x y z distinct.0.0 distinct.0.1.0 distinct.1.0.0 (all x (here x (y ∷ z ∷ rest))) (all y (1, omega arith, refl)) (all z (2, omega arith, refl))

within_limit : (x : ℕ) → AreMoreThan 1024 (IsHeld (near x)) → ⊥
within_limit x many =
    let (some, distinct, held, more) = many in
    let (b, c, each_one) = two_peers x in
    few_of_two (addr b) (addr c) some distinct (λ a h.
    (let (y, among, is) = held_is x a (held a h) in
    elim (each_one y among) [ inl e ↦ inl (is ∙ ap addr e) | inr e ↦ inr (is ∙ ap addr e) ])) more

link_is_sound : (x y : ℕ) (k : LinkKey) (l : Link) → k ≡ key y → l ≡ link x y → IsSoundLink 5 k l
link_is_sound x y k l k_is l_is = grind (arith, common_steps)

sound_link : (x i : ℕ) (k : LinkKey) (l : Link) (until : ℕ) → link_at (near x) i k ≡ Some (l, until) → IsSoundLink 5 k l
sound_link x i k l until h = let (_, y, _, k_is, e) = link_found x i k (l, until) h in link_is_sound x y k l k_is (ap (λ (f : Link × ℕ). f.0) e)

link_admitted : (x i : ℕ) (k : LinkKey) → admit_on (settings x) i 5 (link_at (near x) i k) ≡ link_at (near x) i k
link_admitted x i k = grind (arith, common_steps, link_found)

-- no router is its own peer
not_itself : (x y : ℕ) → Contains (peers x) y → addr y ≢ addr x
not_itself = grind (arith, common_steps, each_pair, same_number)

sound_neighbour : (x y : ℕ) → Contains (peers x) y → IsSoundNeighbour (settings x) (near x) 5 (addr y) (neighbour x y) 9
sound_neighbour x y c = record {
  ascending = λ i j d less within. absurd (omega (arith, less, within));
  by_links = by_links x y c;
  selector = λ chosen. refl;
  not_mine = λ mine. not_itself x y c (address_on x mine.0 (addr y) mine.1).1;
  none_mine = λ a has mine. not_itself x y c (sym (only (addr y) a has) ∙ (address_on x mine.0 a mine.1).1);
}

few_links : (x : ℕ) → IsFew link_eq (link_entry x) (peers x)
few_links x = grind (arith, common_steps)

few_neighbours : (x : ℕ) → IsFew addr_eq (neighbour_entry x) (peers x)
few_neighbours x = grind (arith, common_steps)

few_two_hops : (x : ℕ) → IsFew two_hop_eq two_hop_entry (beyond x)
few_two_hops x = grind (arith, common_steps)

two_hop_symmetric : (x i : ℕ) (k : TwoHopKey) (t : TwoHop × ℕ) → two_hop_at (near x) i k ≡ Some t → is_symmetric_at (near x) 5 i k.link ≡ true
two_hop_symmetric x i k t h = grind (arith, common_steps, two_hop_found, link_there)

sound_neighbourhood : (x : ℕ) → SoundNeighbourhood (settings x) 5 (near x)
sound_neighbourhood x = record {
  interfaces = refl;
  two_hop_interfaces = refl;
  distinct_links = distinct;
  distinct_neighbours = few_distinct addr_eq (neighbour_entry x) (peers x) (few_neighbours x);
  distinct_losts = empty_distinct Lost addr_eq;
  fresh_links = fresh;
  fresh_neighbours = fresh_of addr_eq same_addr (neighbour_entry x) (λ y. refl) (peers x);
  fresh_losts = λ q value until h. none_is_some h;
  two_hops = within;
  limit = within_limit x;
  link = sound_link x;
  by_quality = link_admitted x;
  links_apart = λ i k l e f a at to on from.
      (let (_, y, _, k_is, e_is) = link_found x i k e at in
      let (_, z, _, l_is, f_is) = link_found x i l f to in
      let a_y = only (addr y) a (subst (λ (b : Link × ℕ). Contains b.0.addrs a) e_is on) in
      let a_z = only (addr z) a (subst (λ (b : Link × ℕ). Contains b.0.addrs a) f_is from) in
      k_is ∙ (ap key (same_number y z (sym a_y ∙ a_z)) ∙ sym l_is));
  owner = λ i k l until h.
      (let (_, y, c, _, is) = link_found x i k (l, until) h in
      (addr y, neighbour x y, 9, neighbour_there x y c, λ a has. subst (λ (b : Link × ℕ). Contains b.0.addrs a) is has));
  neighbour = λ o n until h.
      (let (y, c, e, f) = neighbour_found x o (n, until) h in
      let P : Addr4 → Type 0 = λ b. IsSoundNeighbour (settings x) (near x) 5 b n until in
      let Q : Neighbour × ℕ → Type 0 = λ b. IsSoundNeighbour (settings x) (near x) 5 (addr y) b.0 b.1 in
      subst P (sym e) (subst Q (sym f) (sound_neighbour x y c)));
  neighbours_apart = λ o p e f a at to on from.
      (let (y, _, o_is, e_is) = neighbour_found x o e at in
      let (z, _, p_is, f_is) = neighbour_found x p f to in
      let a_y = only (addr y) a (subst (λ (b : Neighbour × ℕ). Contains b.0.addrs a) e_is on) in
      let a_z = only (addr z) a (subst (λ (b : Neighbour × ℕ). Contains b.0.addrs a) f_is from) in
      o_is ∙ (sym a_y ∙ (a_z ∙ sym p_is)));
  two_hop = two_hop_symmetric x;
  lost = λ a e h. none_is_some h;
  lost_not_mine = λ a e h. none_is_some h;
}
  where
    distinct : (i : ℕ) → HasDistinctKeys link_eq (base_of (near x).links i)
    distinct zero = few_distinct link_eq (link_entry x) (peers x) (few_links x)
    distinct (suc i) = empty_distinct Link link_eq

    fresh : (i : ℕ) → IsFresh link_eq 5 (base_of (near x).links i)
    fresh zero = fresh_of link_eq same_link (link_entry x) (λ y. refl) (peers x)
    fresh (suc i) = λ q value until h. none_is_some h

    within : (i : ℕ) → IsWithin two_hop_eq 5 16384 (base_of (near x).two_hops i)
    within zero = within_of two_hop_eq same_two_hop two_hop_entry (λ z. refl) (beyond x) (few_two_hops x)
    within (suc i) = empty_within two_hop_eq 5

-- The topology

few_told : {K V : Type 0} (eq : K → K → Bool) (entry : ℕ → K × (V × ℕ)) → eq (entry 0).0 (entry 2).0 ≡ false → (x : ℕ) → IsFew eq entry (told x)
few_told eq entry differ x = grind (arith, common_steps)

few_networks : (x : ℕ) → IsFew network_eq network_entry (gateways x)
few_networks x = grind (arith, common_steps)

few_advertisers : (x : ℕ) → IsFew addr_eq advertiser_entry (advertisers x)
few_advertisers x = grind (arith, common_steps)

sound_topology : (x : ℕ) → SoundTopology (settings x) 5 (state x).bases.topology
sound_topology x = grind (arith, common_steps, within_of, same_addr, few_advertisers, same_router, few_told, same_address, same_network, few_networks, own_originator)

-- Advertised rows

-- rows with the same parts are the same
row_is : (r : TcRow) (dest : NetAddr) (origin routable : Bool) (gateway : Option ℕ) (m : Option Metric) → dest ≡ r.dest → origin ≡ r.origin → routable ≡ r.routable → gateway ≡ r.gateway → m ≡ r.metric →
    record { dest = dest; origin = origin; routable = routable; gateway = gateway; metric = m } ≡ r
row_is r dest origin routable gateway m e f g h k = grind (arith, common_steps, both_same)

host_row_stands : (y : ℕ) → Contains (peers 1) y → IsTcRow (state 1) (host_row y)
host_row_stands y c = Of_address (addr y) one refl ((λ _. advertises_originator y c), (λ _. refl)) refl refl refl (advertises y c)

pub first_rows : AreTcRows (state 0) []
first_rows = record { exactly = λ row. ((λ c. absurd (none_of row c)), (λ is. absurd (none row is))); ordered = none_ascend (λ (r : TcRow). r.dest) }
  where
    none : (row : TcRow) → IsTcRow (state 0) row → ⊥
    none row (Of_address a m dest origin routable gateway metric is) = let e : ◌≡◌ {A = ℕ} 0 1 = (advertises_is 0 a m is).0 in absurd (omega (arith, e))
    none row (Of_network distance m origin routable gateway metric is) = none_of is.attached is.stands

pub second_rows : AreTcRows (state 1) (host_row 0 ∷ host_row 2 ∷ [])
second_rows = record {
  exactly = λ row. (
    each (IsTcRow (state 1)) (host_row 0 ∷ host_row 2 ∷ []) (host_row_stands 0 (here 0 (2 ∷ [])), (host_row_stands 2 (1, omega arith, refl), tt)) row,
    known row,
  );
  ordered = more_ascend (λ (r : TcRow). r.dest) (host_row 0) (host_row 2) [] (inl (omega arith)) (one_ascends (λ (r : TcRow). r.dest) (host_row 2));
}
  where
    stands : (y : ℕ) → Contains (peers 1) y → Contains (host_row 0 ∷ host_row 2 ∷ []) (host_row y)
    stands = each (λ y. Contains (host_row 0 ∷ host_row 2 ∷ []) (host_row y)) (0 ∷ 2 ∷ []) (here (host_row 0) (host_row 2 ∷ []), ((1, omega arith, refl), tt))

    known : (row : TcRow) → IsTcRow (state 1) row → Contains (host_row 0 ∷ host_row 2 ∷ []) row
    known row (Of_address a m dest origin routable gateway metric is) =
        let (_, y, c, a_is, m_is) = advertises_is 1 a m is in
        let by_originator : AdvertisesOriginator (state 1) a = subst (λ b. AdvertisesOriginator (state 1) b) (sym a_is) (advertises_originator y c) in
        subst (λ r. Contains (host_row 0 ∷ host_row 2 ∷ []) r)
        (row_is row (host (addr y)) true true None (Some one) (sym (dest ∙ ap host a_is)) (sym (origin.1 by_originator)) (sym routable) (sym gateway) (sym (metric ∙ ap Some m_is)))
        (stands y c)
    known row (Of_network distance m origin routable gateway metric is) = absurd (none_of is.attached is.stands)

pub third_rows : AreTcRows (state 2) (net_row ∷ [])
third_rows = record {
  exactly = λ row. (
    (λ c. subst (λ r. IsTcRow (state 2) r) (sym (only net_row row c)) (Of_network 1 one refl refl refl refl advertises_network)),
    known row,
  );
  ordered = one_ascends (λ (r : TcRow). r.dest) net_row;
}
  where
    known : (row : TcRow) → IsTcRow (state 2) row → Contains (net_row ∷ []) row
    known row (Of_address a m dest origin routable gateway metric is) = let e : ◌≡◌ {A = ℕ} 2 1 = (advertises_is 2 a m is).0 in absurd (omega (arith, e))
    known row (Of_network distance m origin routable gateway metric is) =
        let same = attached_is 2 is.attached is.stands in
        subst (λ r. Contains (net_row ∷ []) r)
        (row_is row net false false (Some 1) (Some one) (ap (λ (b : Attached4). b.net) (sym same) ∙ is.at_net) (sym origin) (sym routable)
        (ap Some (ap (λ (b : Attached4). b.distance) (sym same) ∙ is.at_distance) ∙ sym gateway) (ap Some (ap (λ (b : Attached4). b.metric) (sym same) ∙ is.at_metric) ∙ sym metric))
        (here net_row [])

-- The whole

pub sound : (x : ℕ) → AreRoutes (state x) 5 (addr x) → AreTcRows (state x) (rows x) → Sound (state x)
sound x routes rows = record {
  neighbourhood = sound_neighbourhood x;
  topology = sound_topology x;
  noted = record {
    interfaces = refl;
    received = λ i. empties_within _ 5 i;
    processed = empty_within _ 5;
    forwarded = empty_within _ 5;
  };
  relays = relays_are x;
  self = addr x;
  routes = routes;
  rows = rows;
}
