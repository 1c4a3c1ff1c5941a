-- The arcs of a router's own graph, as a list.
use Rattle.mesh_routes.proofs.Common.{arith, common_steps, ◌≡◌, ◌≢◌, ◌⊎◌, inl, inr, ℕ, refl, ap, subst, Some, true, Bool, IsTrue, Contains, cases_eq, Addr4, NetAddr, Metric, Arc4, Graph, TwoHopKey, TwoHop, RouterKey, RouterTuple, AddressKey, AddressTuple, NetworkKey, NetworkTuple, Base, host, RouteArc, To_neighbour, To_two_hop, By_router, By_address, By_network, State, IsOriginator, router_arc, address_arc, network_arc, IsGraphOf, arc_at, same_address, one_originator, contains_at as at_place, place_in as place_of}
use Rattle.mesh_routes.proofs.FirstNodes.{Entry}
use Rattle.mesh_routes.proofs.Listed.{IsListed, listed_one, listed_where, listed_known, listed_either, listed_each}
use Rattle.mesh_routes.proofs.OwnGraph.{graph_by}

-- a test holds, or it doesn't
pub is_or_not : (b : Bool) → (b ≡ true) ⊎ (b ≡ true → ⊥)
is_or_not b = grind (arith, common_steps)

some_or_zero : (n : ℕ) → (n ≢ 0) ⊎ ((n ≢ 0) → ⊥)
some_or_zero n = elim (cases_eq n 0) [ inl zero ↦ inr (λ some. some zero) | inr some ↦ inl some ]

module _ (s : State) (self : Addr4) where
  -- from the router itself to an address of a symmetric neighbour
  abbrev IsOwn : Arc4 → Type 0
  IsOwn x =
      (e : Entry) × Contains s.bases.neighbourhood.neighbours e × (IsTrue e.1.0.symmetric
      × ((k : Metric) × (e.1.0.metric_out ≡ Some k) × ((a : Addr4) × Contains e.1.0.addrs a × (arc_at (host self) (host a) k ≡ x))))

  own : IsListed IsOwn
  own = listed_each s.bases.neighbourhood.neighbours
      (λ e. listed_where (is_or_not e.1.0.symmetric) (listed_known e.1.0.metric_out
      (λ k. listed_each e.1.0.addrs (λ a. listed_one (arc_at (host self) (host a) k)))))

  -- from a symmetric neighbour that is willing to route to the address of a 2-hop tuple
  abbrev IsBeyond : TwoHopKey × (TwoHop × ℕ) → Arc4 → Type 0
  IsBeyond t x =
      (e : Entry) × Contains s.bases.neighbourhood.neighbours e × (IsTrue e.1.0.symmetric × ((e.1.0.willing.routing ≢ 0)
      × ((a : Addr4) × Contains e.1.0.addrs a × ((a ≡ t.0.link.addr)
      × ((k : Metric) × (t.1.0.metric_out ≡ Some k) × (arc_at (host e.0) (host t.0.addr) k ≡ x))))))

  beyond : (t : TwoHopKey × (TwoHop × ℕ)) → IsListed (IsBeyond t)
  beyond t = listed_each s.bases.neighbourhood.neighbours
      (λ e. listed_where (is_or_not e.1.0.symmetric) (listed_where (some_or_zero e.1.0.willing.routing)
      (listed_each e.1.0.addrs (λ a. listed_where (same_address a t.0.link.addr) (listed_known t.1.0.metric_out
      (λ k. listed_one (arc_at (host e.0) (host t.0.addr) k)))))))

  -- by a 2-hop tuple
  abbrev IsTwoHop : Arc4 → Type 0
  IsTwoHop x =
      (base : Base TwoHopKey TwoHop) × Contains s.bases.neighbourhood.two_hops base
      × ((t : TwoHopKey × (TwoHop × ℕ)) × Contains base t × IsBeyond t x)

  two_hop : IsListed IsTwoHop
  two_hop = listed_each s.bases.neighbourhood.two_hops (λ base. listed_each base beyond)

  -- by a router topology tuple
  abbrev IsRouter : Arc4 → Type 0
  IsRouter x = (t : RouterKey × (RouterTuple × ℕ)) × Contains s.bases.topology.routers t × (router_arc t ≡ x)

  -- by a routable address topology tuple
  abbrev IsAddress : Arc4 → Type 0
  IsAddress x = (t : AddressKey × (AddressTuple × ℕ)) × Contains s.bases.topology.addresses t × (address_arc t ≡ x)

  -- by an attached network tuple
  abbrev IsNetwork : Arc4 → Type 0
  IsNetwork x = (t : NetworkKey × (NetworkTuple × ℕ)) × Contains s.bases.topology.networks t × (network_arc t ≡ x)

  router : IsListed IsRouter
  router = listed_each s.bases.topology.routers (λ t. listed_one (router_arc t))

  address : IsListed IsAddress
  address = listed_each s.bases.topology.addresses (λ t. listed_one (address_arc t))

  network : IsListed IsNetwork
  network = listed_each s.bases.topology.networks (λ t. listed_one (network_arc t))

  -- an arc of the router's own graph
  abbrev IsArc : Arc4 → Type 0
  IsArc x = IsOwn x ⊎ (IsTwoHop x ⊎ (IsRouter x ⊎ (IsAddress x ⊎ IsNetwork x)))

  arcs : IsListed IsArc
  arcs = listed_either own (listed_either two_hop (listed_either router (listed_either address network)))

  module _ (is_self : IsOriginator s.settings self) where
    moved : (x y : Arc4) → x ≡ y → RouteArc s x.from x.to x.metric → RouteArc s y.from y.to y.metric
    moved x y is h = subst (λ (z : Arc4). RouteArc s z.from z.to z.metric) is h

    to_arc : (x : Arc4) → IsArc x → RouteArc s x.from x.to x.metric
    to_arc x (inl (e, has, (both_ways, (k, out, (a, within, is))))) =
        moved (arc_at (host self) (host a) k) x is
        (To_neighbour {self = self} {a = a} {m = k} e.0 e.1.0 is_self (((e.1.1, has), both_ways), within) out)
    to_arc x (inr (inl (base, there, (t, stands, (e, has, (both_ways, (willing, (a, within, (at, (k, out, is)))))))))) =
        let (i, place) = place_of s.bases.neighbourhood.two_hops base there in
        let of_link : Contains e.1.0.addrs t.0.link.addr = subst (λ (b : Addr4). Contains e.1.0.addrs b) at within in
        moved (arc_at (host e.0) (host t.0.addr) k) x is
        (To_two_hop {o = e.0} {a = t.0.addr} {m = k} i t.0.link t.1.0 e.1.0 (base, place, (t.1.1, stands))
        (((e.1.1, has), both_ways), of_link) willing out)
    to_arc x (inr (inr (inl (t, has, is)))) = moved (router_arc t) x is (By_router {from = t.0.from} {to = t.0.to} t.1.0 (t.1.1, has))
    to_arc x (inr (inr (inr (inl (t, has, is))))) =
        moved (address_arc t) x is (By_address {from = t.0.from} {a = t.0.addr} t.1.0 (t.1.1, has))
    to_arc x (inr (inr (inr (inr (t, has, is))))) =
        moved (network_arc t) x is (By_network {from = t.0.from} {net = t.0.net} t.1.0 (t.1.1, has))

    Stands : NetAddr → NetAddr → ℕ → Type 0
    Stands a b m = IsArc (record { from = a; to = b; metric = m })

    from_arc : (a b : NetAddr) (m : ℕ) → RouteArc s a b m → Stands a b m
    unfolding Stands
    from_arc _ _ _ (To_neighbour {self = other} {a = a} {m = m} o n is_other with out) =
        let same : self ≡ other = one_originator s.settings self other is_self is_other in
        inl ((o, (n, with.0.0.0)), with.0.0.1, (with.0.1, (m, out, (a, with.1, ap (λ (x : Addr4). arc_at (host x) (host a) m) same))))
    from_arc _ _ _ (To_two_hop {o = o} {a = a} {m = m} i link t n has with willing out) =
        inr (inl (
          has.0,
          at_place s.bases.neighbourhood.two_hops i has.0 has.1,
          (
            (record { link = link; addr = a }, (t, has.2.0)),
            has.2.1,
            ((o, (n, with.0.0.0)), with.0.0.1, (with.0.1, (willing, (link.addr, with.1, (refl, (m, out, refl)))))),
          ),
        ))
    from_arc _ _ _ (By_router {from = from} {to = to} t has) = inr (inr (inl ((record { from = from; to = to }, (t, has.0)), has.1, refl)))
    from_arc _ _ _ (By_address {from = from} {a = a} t has) =
        inr (inr (inr (inl ((record { from = from; addr = a }, (t, has.0)), has.1, refl))))
    from_arc _ _ _ (By_network {from = from} {net = net} t has) =
        inr (inr (inr (inr ((record { from = from; net = net }, (t, has.0)), has.1, refl))))

    pub own_graph : (g : Graph) × IsGraphOf s g
    unfolding Stands
    own_graph = (
      record { arcs = arcs.0 },
      graph_by s (record { arcs = arcs.0 })
          (λ x has. to_arc x ((arcs.1 x).0 has))
          (λ a b m h. (arcs.1 (record { from = a; to = b; metric = m })).1 (from_arc a b m h)),
    )
