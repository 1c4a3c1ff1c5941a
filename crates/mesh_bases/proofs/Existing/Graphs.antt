-- Each router has its neighbour graphs, since its bases are lists.
use Rattle.mesh_bases.proofs.Common.{◌≡◌, ℕ, refl, sym, ◌∙◌, ap, subst, arith, length, slice_get, IsTrue, Option, Some, Contains, slice_get_within, Addr4, Metric, Far, Near, NeighbourGraph, Link, LinkKey, Neighbour, Base, HasDistinctKeys, addr_eq, IsFloodingGraph, IsMetricOver, IsRoutingGraph, HasDistinctIds, State, HasLink, HasSymmetric, HasSymmetricWith, HasTwoHop, is_symmetric, neighbour_at, state_of, some_equal, same_some, IsListed, listed_by, listed_one}
use Rattle.std.proofs.lemmas.Map.Views.{lookup-from_Contains}
use Rattle.mesh_atoms.specs.declared.graphs.Direct.{Direct}
use Rattle.mesh_atoms.specs.declared.tuples.TwoHop.{TwoHop}
use Rattle.mesh_atoms.specs.declared.tuples.TwoHopKey.{TwoHopKey}
use Rattle.mesh_atoms.specs.declared.tuples.LinkState.TheVariants.{Symmetric as Is_symmetric}
use Rattle.mesh_atoms.specs.Codes.Codes.{metric_value}
use Rattle.mesh_atoms.proofs.Lookups.{addr_equiv, tests_symmetric}
use Rattle.mesh_bases.proofs.Existing.Listings.{each_or_not, list_such, true_or_not, upto_or_not}
use Rattle.mesh_bases.proofs.Existing.Listings.{list_elements, list_value, list_below, list_where, list_of}
use Rattle.mesh_bases.proofs.Existing.Offers.{has_or_not}

abbrev Entry : Type 0
Entry = Addr4 × (Neighbour × ℕ)

-- the router's neighbours as tuples
abbrev neighbours_of : State → Base Addr4 Neighbour
neighbours_of s = s.bases.neighbourhood.neighbours

-- What the neighbours with a metric give, whatever makes a metric that of a neighbour, by their willingness and by the metrics of the
-- 2-hop tuples
module _ (s : State) (CostIs : Neighbour → Metric → Type 0) (costs : (n : Neighbour) → IsListed (CostIs n)) (will : Neighbour → ℕ)
    (hop : TwoHop → Option Metric) where
  -- what is listed of each symmetric neighbour
  list_symmetric : {X : Type 0} {F : Entry → X → Type 0} → ((e : Entry) → IsListed (F e)) →
      IsListed (λ x. (e : Entry) × Contains (neighbours_of s) e × (IsTrue e.1.0.symmetric × F e x))
  list_symmetric each = list_of (list_elements (neighbours_of s)) (λ e. list_where (true_or_not e.1.0.symmetric) (each e))

  abbrev NearIs : Near → Type 0
  NearIs x = (n : Neighbour) × (m : Metric) × HasSymmetric s x.id n × CostIs n m × (metric_value m ≡ x.cost) × (will n ≡ x.will)

  abbrev near_of : Addr4 → Neighbour → Metric → Near
  near_of o n m = record { id = o; cost = metric_value m; will = will n }

  list_near : IsListed NearIs
  list_near = listed_by
      (λ (x : Near). (
        λ (e, has, (both_ways, (m, cost, is))). subst NearIs is (e.1.0, m, ((e.1.1, has), both_ways), cost, refl, refl),
        λ (n, m, ((until, has), both_ways), cost, at, willing).
            let is : near_of x.id n m ≡ x =
            ap (λ (c : ℕ). let r : Near = record { id = x.id; cost = c; will = will n } in r) at
            ∙ ap (λ (w : ℕ). let r : Near = record { id = x.id; cost = x.cost; will = w } in r) willing in
            ((x.id, (n, until)), has, (both_ways, (m, cost, is))),
      ))
      (list_symmetric (λ e. list_of (costs e.1.0) (λ m. listed_one (near_of e.0 e.1.0 m))))

  abbrev DirectIs : Direct → Type 0
  DirectIs x = (o : Addr4) × (n : Neighbour) × (m : Metric) × HasSymmetricWith s x.addr o n × CostIs n m × (metric_value m ≡ x.cost)

  abbrev direct_of : Addr4 → Metric → Direct
  direct_of a m = record { addr = a; cost = metric_value m }

  list_direct : IsListed DirectIs
  list_direct = listed_by
      (λ (x : Direct). (
        λ (e, has, (both_ways, (m, cost, (a, within, is)))).
            subst DirectIs is (e.0, e.1.0, m, (((e.1.1, has), both_ways), within), cost, refl),
        λ (o, n, m, (((until, has), both_ways), within), cost, at).
            let is : direct_of x.addr m ≡ x = ap (λ (c : ℕ). let r : Direct = record { addr = x.addr; cost = c } in r) at in
            ((o, (n, until)), has, (both_ways, (m, cost, (x.addr, within, is)))),
      ))
      (list_symmetric (λ e. list_of (costs e.1.0) (λ m. list_of (list_elements e.1.0.addrs) (λ a. listed_one (direct_of a m)))))

  -- a far entry by a 2-hop tuple of interface i
  abbrev FarIs : ℕ → Far → Type 0
  FarIs i x =
      (key : TwoHopKey) × (t : TwoHop) × (n : Neighbour) × (k m : Metric) × HasTwoHop s i key t
      × HasSymmetricWith s key.link.addr x.via n × CostIs n k
      × (key.addr ≡ x.addr) × (hop t ≡ Some m) × (metric_value m ≡ x.cost)

  abbrev far_of : Addr4 → Addr4 → Metric → Far
  far_of via a m = record { via = via; addr = a; cost = metric_value m }

  list_far : (i : ℕ) → IsListed (FarIs i)
  list_far i = listed_by
      (λ (x : Far). (
        λ (base, stands, (t, has_t, (e, has, (both_ways, (within, (k, cost, (m, out, is))))))).
            let two_hop : HasTwoHop s i t.0 t.1.0 = (base, stands, (t.1.1, has_t)) in
            let owner : HasSymmetricWith s t.0.link.addr e.0 e.1.0 = (((e.1.1, has), both_ways), within) in
            subst (FarIs i) is (t.0, t.1.0, e.1.0, k, m, two_hop, owner, cost, refl, out, refl),
        λ (key, t, n, k, m, (base, stands, (until_t, has_t)), (((until, has), both_ways), within), cost, to, out, at).
            let is : far_of x.via key.addr m ≡ x =
            ap (λ (a : Addr4). let r : Far = record { via = x.via; addr = a; cost = metric_value m } in r) to
            ∙ ap (λ (c : ℕ). let r : Far = record { via = x.via; addr = x.addr; cost = c } in r) at in
            (base, stands, ((key, (t, until_t)), has_t, ((x.via, (n, until)), has, (both_ways, (within, (k, cost, (m, out, is))))))),
      ))
      (list_of (list_value (slice_get s.bases.neighbourhood.two_hops i)) (λ base. list_of (list_elements base)
      (λ t. list_symmetric (λ e. list_where (has_or_not e.1.0.addrs t.0.link.addr) (list_of (costs e.1.0)
      (λ k. list_of (list_value (hop t.1.0)) (λ m. listed_one (far_of e.0 t.0.addr m))))))))

  -- where the metrics of a neighbour have one value, an id stands for one near entry
  one_near : HasDistinctKeys addr_eq (neighbours_of s) →
      ((n : Neighbour) (m k : Metric) → CostIs n m → CostIs n k → metric_value m ≡ metric_value k) →
      (x y : Near) → NearIs x → NearIs y → x.id ≡ y.id → x ≡ y
  one_near distinct one x y (n, m, ((until, has), _), cost, at, willing) (p, k, ((until', has'), _), cost', at', willing') ids =
      let find = neighbour_at s.bases.neighbourhood in
      let found : find x.id ≡ Some (n, until) = lookup-from_Contains addr_equiv x.id (n, until) (neighbours_of s) distinct has in
      let found' : find y.id ≡ Some (p, until') = lookup-from_Contains addr_equiv y.id (p, until') (neighbours_of s) distinct has' in
      let both : Some (n, until) ≡ Some (p, until') = sym found ∙ (ap find ids ∙ found') in
      let same : n ≡ p = ap (λ (v : Neighbour × ℕ). v.0) (some_equal (n, until) (p, until') both) in
      let same_cost : x.cost ≡ y.cost = sym at ∙ (one p m k (subst (λ (q : Neighbour). CostIs q m) same cost) cost' ∙ at') in
      let same_will : x.will ≡ y.will = sym willing ∙ (ap will same ∙ willing') in
      ap (λ (o : Addr4). let r : Near = record { id = o; cost = x.cost; will = x.will } in r) ids
      ∙ (ap (λ (c : ℕ). let r : Near = record { id = y.id; cost = c; will = x.will } in r) same_cost
      ∙ ap (λ (w : ℕ). let r : Near = record { id = y.id; cost = y.cost; will = w } in r) same_will)

-- Routing

module _ (s : State) where
  abbrev CostsIn : Neighbour → Metric → Type 0
  CostsIn n m = n.metric_in ≡ Some m

  costs_in : (n : Neighbour) → IsListed (CostsIn n)
  costs_in n = list_value n.metric_in

  abbrev to_route : Neighbour → ℕ
  to_route n = n.willing.routing

  abbrev hop_in : TwoHop → Option Metric
  hop_in t = t.metric_in

  pub routing_graph : HasDistinctKeys addr_eq (neighbours_of s) → (g : NeighbourGraph) × IsRoutingGraph s g × HasDistinctIds g
  routing_graph distinct =
      let (near, are_near) = list_near s CostsIn costs_in to_route hop_in in
      let (direct, are_direct) = list_direct s CostsIn costs_in to_route hop_in in
      let (far, are_far) = listed_by
      (λ (x : Far). (
        λ (i, low, (key, t, n, k, m, stands, owner, cost, to, out, at)). (i, key, t, n, k, m, stands, owner, cost, to, out, at),
        λ (i, key, t, n, k, m, stands, owner, cost, to, out, at).
            let low = slice_get_within s.bases.neighbourhood.two_hops i stands.0 stands.1 in
            (i, low, (key, t, n, k, m, stands, owner, cost, to, out, at)),
      ))
      (list_of (list_below (length s.bases.neighbourhood.two_hops)) (list_far s CostsIn costs_in to_route hop_in)) in (
        record { near = near; direct = direct; far = far },
        record { near = are_near; direct = are_direct; far = are_far },
        λ x y has has' ids. one_near s CostsIn costs_in to_route hop_in distinct
            (λ n m k is is'. ap (λ (v : Metric). metric_value v) (same_some is is'))
            x y ((are_near x).0 has) ((are_near y).0 has') ids,
      )

-- Flooding

module _ (s : State) (now i : ℕ) where
  -- a SYMMETRIC link of the neighbour on the interface has that metric to it
  abbrev LinkIs : Neighbour → Metric → Type 0
  LinkIs n k =
      (key : LinkKey) × (link : Link) × HasLink s i key link × Contains n.addrs key.addr
      × (state_of link now ≡ Is_symmetric) × (link.link_out ≡ Some k)

  list_links : (n : Neighbour) → IsListed (LinkIs n)
  list_links n = listed_by
      (λ (k : Metric). (
        λ (base, stands, (l, has, (within, (both_ways, out)))).
            (l.0, l.1.0, (base, stands, (l.1.1, has)), within, (tests_symmetric l.1.0 now).0 both_ways, out),
        λ (key, link, (base, stands, (until, has)), within, both_ways, out).
            (base, stands, ((key, (link, until)), has, (within, ((tests_symmetric link now).1 both_ways, out)))),
      ))
      (list_of (list_value (slice_get s.bases.neighbourhood.links i)) (λ base. list_of (list_elements base)
      (λ l. list_where (has_or_not n.addrs l.0.addr)
      (list_where (true_or_not (is_symmetric l.1.0 now)) (list_value l.1.0.link_out)))))

  costs_over : (n : Neighbour) → IsListed (IsMetricOver s now i n)
  costs_over n = list_such (list_links n) (λ m. each_or_not (list_links n) (λ k. upto_or_not (metric_value m) (metric_value k)))

  abbrev to_flood : Neighbour → ℕ
  to_flood n = n.willing.flooding

  abbrev hop_out : TwoHop → Option Metric
  hop_out t = t.metric_out

  pub flooding_graph : HasDistinctKeys addr_eq (neighbours_of s) → (g : NeighbourGraph) × IsFloodingGraph s now i g × HasDistinctIds g
  flooding_graph distinct =
      let CostIs : Neighbour → Metric → Type 0 = IsMetricOver s now i in
      let (near, are_near) = list_near s CostIs costs_over to_flood hop_out in
      let (direct, are_direct) = list_direct s CostIs costs_over to_flood hop_out in
      let (far, are_far) = list_far s CostIs costs_over to_flood hop_out i in (
        record { near = near; direct = direct; far = far },
        record { near = are_near; direct = are_direct; far = are_far },
        λ x y has has' ids. one_near s CostIs costs_over to_flood hop_out distinct
            (λ n m k (has_m, least) (has_k, least'). let low = least k has_k in let high = least' m has_m in omega arith)
            x y ((are_near x).0 has) ((are_near y).0 has') ids,
      )
