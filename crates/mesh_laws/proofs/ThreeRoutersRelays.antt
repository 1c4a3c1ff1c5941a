-- The relays of three routers in a row: the outer ones need the middle one, which needs none.
use Rattle.mesh_laws.proofs.Common.{common_steps, ◌≡◌, ℕ, ◌↔◌, ◌≢◌, inl, inr, refl, sym, ◌∙◌, ap, subst, arith, [], map, Contains, Option, Some, Addr4, Metric, LinkKey, Link, TwoHopKey, TwoHop, Neighbour, Near, Direct, NeighbourGraph, metric_value, IsRoutingGraph, IsFloodingGraph, IsMetricOver, AreRelays, AreRelaysOf, Symmetric as Is_symmetric, HasLink, HasTwoHop, HasSymmetric, HasSymmetricWith, state_of, IsAscending, first_of, contains_map, contains_head as here, some_equal}
use Rattle.mesh_atoms.specs.declared.graphs.Far.{Far}
use Rattle.mesh_atoms.specs.Relays.{Offers, IsWilling, IsRelay, IsOtherRelay}
use Rattle.mesh_laws.proofs.Members.{unmapped, both_same}
use Rattle.mesh_laws.proofs.ThreeRouters.{one, addr, peers, beyond, relays, key, link, neighbour, two_hop_key, far, state, each_beyond, each_relay, same_number, link_is, link_has, symmetric_is, symmetric_has, two_hop_is, two_hop_has}
use Rattle.mesh_laws.proofs.ThreeRoutersSay.{near, near_has}
use Rattle.mesh_laws.proofs.ThreeRoutersSettled.{behind}

-- The graph, for routing and for flooding

abbrev near_of : ℕ → Near
near_of y = record { id = addr y; cost = 1; will = 7 }

abbrev direct_of : ℕ → Direct
direct_of y = record { addr = addr y; cost = 1 }

abbrev far_of : ℕ → Far
far_of z = record { via = addr 1; addr = addr z; cost = 1 }

abbrev graph_of : ℕ → NeighbourGraph
graph_of x = record { near = map near_of (peers x); direct = map direct_of (peers x); far = map far_of (beyond x) }

-- a metric and a willingness of neighbours, which are 1 and 7 for each of them
record Costs (x : ℕ) : Type 1 where
  Cost : Neighbour → Metric → Type 0
  will : Neighbour → ℕ
  is_one : (y : ℕ) → Contains (peers x) y → Cost (neighbour x y) one
  one_alone : (y : ℕ) (m : Metric) → Cost (neighbour x y) m → metric_value m ≡ 1
  seven : (y : ℕ) → will (neighbour x y) ≡ 7

near_entry : (x : ℕ) (c : Costs x) (e : Near) →
    Contains (graph_of x).near e ↔ ((n : Neighbour) × (m : Metric) × HasSymmetric (state x) e.id n × c.Cost n m × (metric_value m ≡ e.cost) × (c.will n ≡ e.will))
near_entry x c e = (
  (λ stands. (let (y, among, is) = unmapped near_of (peers x) e stands in
      rw is (neighbour x y, one, symmetric_has x y among, c.is_one y among, refl, c.seven y))),
  (λ given.
      (let (n, m, has, metric, value, will) = given in
      let (y, among, id, g) = symmetric_is x e.id n has in
      let one_m : metric_value m ≡ 1 = c.one_alone y m (subst (λ (b : Neighbour). c.Cost b m) g metric) in
      let seven : c.will n ≡ 7 = subst (λ (b : Neighbour). c.will b ≡ 7) (sym g) (c.seven y) in
      let parts : near_of y ≡ record { id = e.id; cost = e.cost; will = 7 } =
      both_same (λ (a : Addr4) (k : ℕ). let r : Near = record { id = a; cost = k; will = 7 } in r) _ _ _ _ (sym id) (sym one_m ∙ value) in
      let same : near_of y ≡ e = parts ∙ ap (λ (k : ℕ). let r : Near = record { id = e.id; cost = e.cost; will = k } in r) (sym seven ∙ will) in
      subst (λ b. Contains (graph_of x).near b) same (contains_map near_of (peers x) y among))),
)

direct_entry : (x : ℕ) (c : Costs x) (e : Direct) →
    Contains (graph_of x).direct e ↔ ((o : Addr4) × (n : Neighbour) × (m : Metric) × HasSymmetricWith (state x) e.addr o n × c.Cost n m × (metric_value m ≡ e.cost))
direct_entry x c e = (
  (λ stands. (let (y, among, is) = unmapped direct_of (peers x) e stands in
      rw is (addr y, neighbour x y, one, near_has x y among, c.is_one y among, refl))),
  (λ given.
      (let (o, n, m, has, metric, value) = given in
      let (y, among, at, _, g) = near x e.addr o n has in
      let one_m : metric_value m ≡ 1 = c.one_alone y m (subst (λ (b : Neighbour). c.Cost b m) g metric) in
      let same : direct_of y ≡ e =
      both_same (λ (a : Addr4) (k : ℕ). let r : Direct = record { addr = a; cost = k } in r) _ _ _ _ (sym at) (sym one_m ∙ value) in
      subst (λ b. Contains (graph_of x).direct b) same (contains_map direct_of (peers x) y among))),
)

-- an entry of a 2-hop tuple, by one of its two metrics
far_given : (x i : ℕ) (k : TwoHopKey) (t : TwoHop) (n : Neighbour) (m : Metric) (e : Far) (side : TwoHop → Option Metric) → side far ≡ Some one →
    HasTwoHop (state x) i k t → HasSymmetricWith (state x) k.link.addr e.via n → k.addr ≡ e.addr → side t ≡ Some m → metric_value m ≡ e.cost → Contains (graph_of x).far e
far_given x i k t n m e side is_one has with at is value =
    let (_, z, among, k_is, t_is) = two_hop_is x i k t has in
    let (y, _, l_is, via, _) = near x k.link.addr e.via n with in
    let m_is : one ≡ m = some_equal _ _ (sym is_one ∙ (ap side (sym t_is) ∙ is)) in
    let cost : 1 ≡ e.cost = ap metric_value m_is ∙ value in
    let via_is : addr 1 ≡ e.via = ap (λ (l : TwoHopKey). l.link.addr) (sym k_is) ∙ (l_is ∙ sym via) in
    let parts : far_of z ≡ record { via = e.via; addr = e.addr; cost = 1 } =
    both_same (λ (a b : Addr4). let r : Far = record { via = a; addr = b; cost = 1 } in r) _ _ _ _ via_is (ap (λ (l : TwoHopKey). l.addr) (sym k_is) ∙ at) in
    let same : far_of z ≡ e = parts ∙ ap (λ (c : ℕ). let r : Far = record { via = e.via; addr = e.addr; cost = c } in r) cost in
    subst (λ b. Contains (graph_of x).far b) same (contains_map far_of (beyond x) z among)

routing_costs : (x : ℕ) → Costs x
routing_costs x = record {
  Cost = λ n m. n.metric_in ≡ Some m;
  will = λ n. n.willing.routing;
  is_one = λ y c. refl;
  one_alone = λ y m e. ap metric_value (sym (some_equal _ _ e));
  seven = λ y. refl;
}

routing_graph : (x : ℕ) → IsRoutingGraph (state x) (graph_of x)
unfolding routing_costs
routing_graph x = record {
  near = λ e. near_entry x (routing_costs x) e;
  direct = λ e. direct_entry x (routing_costs x) e;
  far = λ e. (
    (λ stands. (let (z, among, is) = unmapped far_of (beyond x) e stands in
        rw is (0, two_hop_key z, far, neighbour x 1, one, one, two_hop_has x z among, near_has x 1 (behind x z among).by_middle, refl, refl, refl, refl))),
    (λ given. (let (i, k, t, n, _, m, has, with, _, at, is, value) = given in far_given x i k t n m e (λ u. u.metric_in) refl has with at is value)),
  );
}

flooding_costs : (x : ℕ) → Costs x
flooding_costs x = record {
  Cost = λ n m. IsMetricOver (state x) 5 0 n m;
  will = λ n. n.willing.flooding;
  is_one = λ y c. ((key y, link x y, link_has x y c, here (addr y) [], refl, refl), (λ m given. (let e : metric_value m ≡ 1 = known y m given in omega (arith, e))));
  one_alone = λ y m c. known y m c.0;
  seven = λ y. refl;
}
  where
    known : (y : ℕ) (m : Metric) → ((k : LinkKey) × (l : Link) × HasLink (state x) 0 k l × Contains (neighbour x y).addrs k.addr × (state_of l 5 ≡ Is_symmetric) × (l.link_out ≡ Some m)) → metric_value m ≡ 1
    known y m given =
        let (k, l, has, _, _, out) = given in
        let (_, _, _, _, e) = link_is x 0 k l has in
        let P : Link → Type 0 = λ b. b.link_out ≡ Some m in
        ap metric_value (sym (some_equal _ _ (subst P e out)))

flooding_graph : (x : ℕ) → IsFloodingGraph (state x) 5 0 (graph_of x)
unfolding flooding_costs
flooding_graph x = record {
  near = λ e. near_entry x (flooding_costs x) e;
  direct = λ e. direct_entry x (flooding_costs x) e;
  far = λ e. (
    (λ stands. (let (z, among, is) = unmapped far_of (beyond x) e stands in
        let middle = (behind x z among).by_middle in
        rw is (two_hop_key z, far, neighbour x 1, one, one, two_hop_has x z among, near_has x 1 middle, (flooding_costs x).is_one 1 middle, refl, refl, refl))),
    (λ given. (let (k, t, n, _, m, has, with, _, at, is, value) = given in far_given x 0 k t n m e (λ u. u.metric_out) refl has with at is value)),
  );
}

-- The relays

ascending : (x : ℕ) → IsAscending (map addr (relays x))
ascending x i j d less within = grind (arith, common_steps)

-- who is beyond is relayed to, and is no peer
record IsRelayed (x z : ℕ) : Type 0 where
  relay : Contains (relays x) 1
  no_peer : (y : ℕ) → Contains (peers x) y → y ≢ z

relayed : (x z : ℕ) → Contains (beyond x) z → IsRelayed x z
relayed = grind (arith, common_steps, each_beyond)

-- each relay is the middle router, for the sake of a router beyond
sake : (x y : ℕ) → Contains (relays x) y → (y ≡ 1) × (z : ℕ) × Contains (beyond x) z
sake = each_relay (λ x y. (y ≡ 1) × (z : ℕ) × Contains (beyond x) z) (refl, 2, here 2 []) (refl, 0, here 0 [])

-- by way of the middle router, what is beyond costs 2
module _ (x z : ℕ) (among : Contains (beyond x) z) where
  by_middle : (Among : Near → Type 0) → Among (near_of 1) → Offers (graph_of x) Among (addr z) 2
  by_middle Among h = inr (
    near_of 1,
    contains_map near_of (peers x) 1 (behind x z among).by_middle,
    h,
    far_of z,
    contains_map far_of (beyond x) z among,
    refl,
    refl,
    refl,
  )

  -- and it is offered so alone
  offered : (Among : Near → Type 0) (c : ℕ) → Offers (graph_of x) Among (addr z) c → (n : Near) × Among n × (c ≡ 2)
  offered Among c offer = elim offer [
    | inl direct ↦
        let (d, stands, at, _) = direct in
        let (y, peer, is) = unmapped direct_of (peers x) d stands in
        absurd ((relayed x z among).no_peer y peer (same_number y z (ap (λ (b : Direct). b.addr) (sym is) ∙ at)))
    | inr way ↦
        let (n, stands, is_among, f, far_stands, _, _, sum) = way in
        let (_, _, n_is) = unmapped near_of (peers x) n stands in
        let (_, _, f_is) = unmapped far_of (beyond x) f far_stands in
        let first : n.cost ≡ 1 = ap (λ (b : Near). b.cost) n_is in
        let second : f.cost ≡ 1 = ap (λ (b : Far). b.cost) f_is in
        (n, is_among, omega (arith, first, second, sum))
  ]

chosen_ones : (x : ℕ) → AreRelaysOf (graph_of x) (map addr (relays x))
chosen_ones x = record {
  covers = record {
    always = λ n stands will. (let (_, _, is) = unmapped near_of (peers x) n stands in
        let no : n.will ≡ 7 = ap (λ (b : Near). b.will) is in absurd (omega (arith, no, will)));
    willing = λ id stands. (let (y, c, is) = unmapped addr (relays x) id stands in
        (near_of y, contains_map near_of (peers x) y (relay_peer x y c), sym is, λ no. absurd (omega (arith, no))));
    as_cheap = λ f c stands offer.
        (let (z, among, is) = unmapped far_of (beyond x) f stands in
        let at = ap (λ (b : Far). b.addr) is in
        let (_, _, two) = offered x z among IsWilling c (subst (λ a. Offers (graph_of x) IsWilling a c) at offer) in
        (2, subst (λ a. Offers (graph_of x) (IsRelay (map addr (relays x))) a 2) (sym at) (by_middle x z among (IsRelay (map addr (relays x))) (contains_map addr (relays x) 1 (relayed x z among).relay)), omega (arith, two)));
  };
  needed = record {
    missed = λ n stands relay willing low.
        (let (y, c, id) = unmapped addr (relays x) n.id relay in
        let (y_is, z, among) = sake x y c in (
          far_of z,
          contains_map far_of (beyond x) z among,
          (λ same.
              (let (e, offer, _) = same.0 2 (by_middle x z among IsWilling (λ no. absurd (omega (arith, no)))) in
              let (m, other, _) = offered x z among (IsOtherRelay (map addr (relays x)) n.id) e offer in
              let (w, d, m_id) = unmapped addr (relays x) m.id other.0 in
              let (w_is, _, _) = sake x w d in
              other.1 (m_id ∙ (ap addr (w_is ∙ sym y_is) ∙ sym id)))),
        ));
  };
  ascending = ascending x;
}
  where
    relay_peer : (x y : ℕ) → Contains (relays x) y → Contains (peers x) y
    relay_peer = each_relay (λ x y. Contains (peers x) y) (here 1 []) (here 1 [])

pub relays_are : (x : ℕ) → AreRelays (state x) 5
relays_are x = record {
  interfaces = refl;
  flooding = λ i list at.
      (let (e, is) = first_of (map addr (relays x)) list i at in
      rw (e, is) (graph_of x, flooding_graph x, chosen_ones x));
  routing = (graph_of x, routing_graph x, chosen_ones x);
}
