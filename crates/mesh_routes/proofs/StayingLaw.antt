-- Where all that routes and graphs are made of is the same, they stay.
use Rattle.mesh_routes.proofs.Common.{◌≡◌, ◌↔◌, ℕ, sym, subst, List, Contains, Some, AllPairs, Addr4, NetAddr, Metric, Attached4, NeighbourGraph, Route, Neighbour, LinkKey, Link, TwoHop, TwoHopKey, Symmetric as Is_symmetric, RouterKey, RouterTuple, AddressKey, AddressTuple, NetworkKey, NetworkTuple, Has, host, metric_value, IsBefore, IsMetricOver, IsRoutingGraph, IsFloodingGraph, RouteArc, To_neighbour, To_two_hop, By_router, By_address, By_network, IsOutside, IsParent, IsWayTo, IsNextHop, State, TopologyBase, state_of, HasLink, HasTwoHop, HasSymmetric, HasAddress, IsOriginator, FirstNode, AtSelf, Through, SameOwn, SameArcs, SameWays, SameTwoHops, RoutesStay, GraphsStay}
use Rattle.mesh_routes.proofs.GraphWalks.{walk_by, least_by, fits_by}

-- What is the router's own

outside_by : (s t : State) → ((a : Addr4) → HasAddress t.settings a → HasAddress s.settings a) → t.settings.attached ≡ s.settings.attached → (node : NetAddr) → IsOutside s node → IsOutside t node
outside_by s t back attached node out = record {
  no_address = λ a has. out.no_address a (back a has);
  no_network = λ att has. out.no_network att (subst (λ (l : List Attached4). Contains l att) attached has);
}

pub same_own : (s t : State) → ((a : Addr4) → IsOriginator s.settings a ↔ IsOriginator t.settings a) → ((a : Addr4) → HasAddress s.settings a ↔ HasAddress t.settings a) → t.settings.attached ≡ s.settings.attached → SameOwn s t
same_own s t originator address attached = record {
  originator = originator;
  outside = λ node. (outside_by s t (λ a. (address a).1) attached node, outside_by t s (λ a. (address a).0) (sym attached) node);
}

-- Arcs

-- each tuple of the one topology has one of the other with the same metric
pub record TellsAlso (old new : TopologyBase) : Type 0 where
  pub routers : (key : RouterKey) (x : RouterTuple) → Has old.routers key x → (y : RouterTuple) × Has new.routers key y × (y.metric ≡ x.metric)
  pub addresses : (key : AddressKey) (x : AddressTuple) → Has old.addresses key x → (y : AddressTuple) × Has new.addresses key y × (y.metric ≡ x.metric)
  pub networks : (key : NetworkKey) (x : NetworkTuple) → Has old.networks key x → (y : NetworkTuple) × Has new.networks key y × (y.metric ≡ x.metric)

module _ (s t : State) (originator : (a : Addr4) → IsOriginator s.settings a → IsOriginator t.settings a) (neighbour : (o : Addr4) (n : Neighbour) → HasSymmetric s o n → HasSymmetric t o n)
    (two_hop : (i : ℕ) (key : TwoHopKey) (x : TwoHop) → HasTwoHop s i key x → HasTwoHop t i key x) (also : TellsAlso s.bases.topology t.bases.topology) where
  arc_stays : {a b : NetAddr} {m : ℕ} → RouteArc s a b m → RouteArc t a b m
  arc_stays (To_neighbour {self = self} o n is_self with out) = To_neighbour o n (originator self is_self) (neighbour o n with.0, with.1) out
  arc_stays (To_two_hop {o = o} {a = a} i link x n has with willing out) = To_two_hop i link x n (two_hop i (record { link = link; addr = a }) x has) (neighbour o n with.0, with.1) willing out
  arc_stays (By_router {from = from} {to = to} x has) =
      let (y, there, same) = also.routers (record { from = from; to = to }) x has in
      subst (λ (m : Metric). RouteArc t (host from) (host to) (metric_value m)) same (By_router y there)
  arc_stays (By_address {from = from} {a = a} x has) =
      let (y, there, same) = also.addresses (record { from = from; addr = a }) x has in
      subst (λ (m : Metric). RouteArc t (host from) (host a) (metric_value m)) same (By_address y there)
  arc_stays (By_network {from = from} {net = net} x has) =
      let (y, there, same) = also.networks (record { from = from; net = net }) x has in
      subst (λ (m : Metric). RouteArc t (host from) net (metric_value m)) same (By_network y there)

pub arcs_stay : {s t : State} {now later : ℕ} → SameOwn s t → SameWays s now t later → SameTwoHops s t → TellsAlso s.bases.topology t.bases.topology → TellsAlso t.bases.topology s.bases.topology → SameArcs s t
arcs_stay {s} {t} own ways two_hops to back a b m = (
  λ arc. arc_stays s t (λ o. (own.originator o).0) (λ o n. (ways.neighbours o n).0) (λ i key x. (two_hops i key x).0) to arc,
  λ arc. arc_stays t s (λ o. (own.originator o).1) (λ o n. (ways.neighbours o n).1) (λ i key x. (two_hops i key x).1) back arc,
)

-- Routes

module _ (s t : State) (arcs : SameArcs s t) (self : NetAddr) where
  to : (a b : NetAddr) (m : ℕ) → RouteArc s a b m → RouteArc t a b m
  to a b m = (arcs a b m).0

  back : (a b : NetAddr) (m : ℕ) → RouteArc t a b m → RouteArc s a b m
  back a b m = (arcs a b m).1

  pub parent_stays : {p node : NetAddr} → IsParent s self p node → IsParent t self p node
  parent_stays is = record { fits = fits_by to back is.fits; least = λ q fits. is.least q (fits_by back to fits) }

  first_stays : {node f : NetAddr} → FirstNode (IsParent s self) self node f → FirstNode (IsParent t self) self node f
  first_stays (AtSelf parent) = AtSelf (parent_stays parent)
  first_stays (Through parent away rest) = Through (parent_stays parent) away (first_stays rest)

  pub next_hop_stays : (now later : ℕ) → SameWays s now t later → (row : Route) → IsNextHop s now self row → IsNextHop t later self row
  next_hop_stays now later same row hop = record {
    first = hop.first;
    on_the_way = first_stays hop.on_the_way;
    originator = hop.originator;
    neighbour = hop.neighbour;
    owner = ((same.neighbours hop.originator hop.neighbour).0 hop.owner.0, hop.owner.1);
    metric = hop.metric;
    way = (same.ways hop.neighbour row.iface (record { addr = row.next }) hop.metric).0 hop.way;
    best = λ i key m way. hop.best i key m ((same.ways hop.neighbour i key m).1 way);
  }

pub routes_stay : RoutesStay
routes_stay s t now later self own arcs ways routes are =
    let before : (row : Route) → Contains t.routes row → Contains s.routes row = λ row has. subst (λ (l : List Route). Contains l row) routes has in
    record {
      is_self = (own.originator self).0 are.is_self;
      reached = λ node c walk out.
          let (row, has, at) = are.reached node c (walk_by (λ a b m. (arcs a b m).1) walk) ((own.outside node).1 out) in (row, subst (λ (l : List Route). Contains l row) (sym routes) has, at);
      outside = λ row has. (own.outside row.dest).0 (are.outside row (before row has));
      least = λ row has. least_by (λ a b m. (arcs a b m).0) (λ a b m. (arcs a b m).1) (are.least row (before row has));
      parent = λ row has. parent_stays s t arcs (host self) (are.parent row (before row has));
      next_hop = λ row has. next_hop_stays s t arcs (host self) now later ways row (are.next_hop row (before row has));
      ordered = subst (λ (l : List Route). AllPairs (λ r x. IsBefore r.dest x.dest) l) (sym routes) are.ordered;
    }

-- Graphs

-- a SYMMETRIC link of the neighbour on interface i has that known metric
abbrev IsOutOver : State → ℕ → ℕ → Neighbour → Metric → Type 0
IsOutOver s now i n k = (key : LinkKey) × (link : Link) × HasLink s i key link × Contains n.addrs key.addr × (state_of link now ≡ Is_symmetric) × (link.link_out ≡ Some k)

out_by : (s t : State) (now later i : ℕ) (n : Neighbour) (k : Metric) → ((key : LinkKey) → IsWayTo s now n i key k → IsWayTo t later n i key k) → IsOutOver s now i n k → IsOutOver t later i n k
out_by s t now later i n k to (key, link, has, within, symmetric, out) =
    let way : IsWayTo t later n i key k = to key (record { link = link; stands = has; state = symmetric; of_it = within; out = out }) in
    (key, way.link, way.stands, way.of_it, way.state, way.out)

over_by : (s t : State) (now later i : ℕ) (n : Neighbour) (m : Metric) → ((key : LinkKey) (k : Metric) → IsWayTo s now n i key k ↔ IsWayTo t later n i key k) → IsMetricOver s now i n m → IsMetricOver t later i n m
over_by s t now later i n m ways (is, least) = (out_by s t now later i n m (λ key. (ways key m).0) is, λ k by. least k (out_by t s later now i n k (λ key. (ways key k).1) by))

through : {P Q R : Type 0} → P ↔ Q → (Q → R) → (R → Q) → P ↔ R
through both to back = (λ p. to (both.0 p), λ r. both.1 (back r))

module _ (s t : State) (now later : ℕ) (same : SameWays s now t later) (two_hops : SameTwoHops s t) where
  to_t : (o : Addr4) (n : Neighbour) → HasSymmetric s o n → HasSymmetric t o n
  to_t o n = (same.neighbours o n).0

  to_s : (o : Addr4) (n : Neighbour) → HasSymmetric t o n → HasSymmetric s o n
  to_s o n = (same.neighbours o n).1

  routing_stays : (g : NeighbourGraph) → IsRoutingGraph s g → IsRoutingGraph t g
  routing_stays g is = record {
    near = λ e. through (is.near e) (λ (n, m, has, known, at, will). (n, m, to_t e.id n has, known, at, will)) (λ (n, m, has, known, at, will). (n, m, to_s e.id n has, known, at, will));
    direct = λ e. through (is.direct e) (λ (o, n, m, (has, within), known, at). (o, n, m, (to_t o n has, within), known, at)) (λ (o, n, m, (has, within), known, at). (o, n, m, (to_s o n has, within), known, at));
    far = λ e. through (is.far e)
        (λ (i, key, x, n, k, m, two_hop, (has, within), known, addr, metric, at). (i, key, x, n, k, m, (two_hops i key x).0 two_hop, (to_t e.via n has, within), known, addr, metric, at))
        (λ (i, key, x, n, k, m, two_hop, (has, within), known, addr, metric, at). (i, key, x, n, k, m, (two_hops i key x).1 two_hop, (to_s e.via n has, within), known, addr, metric, at));
  }

  module _ (i : ℕ) where
    over_t : (n : Neighbour) (m : Metric) → IsMetricOver s now i n m → IsMetricOver t later i n m
    over_t n m = over_by s t now later i n m (λ key k. same.ways n i key k)

    over_s : (n : Neighbour) (m : Metric) → IsMetricOver t later i n m → IsMetricOver s now i n m
    over_s n m = over_by t s later now i n m (λ key k. ((same.ways n i key k).1, (same.ways n i key k).0))

    flooding_stays : (g : NeighbourGraph) → IsFloodingGraph s now i g → IsFloodingGraph t later i g
    flooding_stays g is = record {
      near = λ e. through (is.near e) (λ (n, m, has, over, at, will). (n, m, to_t e.id n has, over_t n m over, at, will)) (λ (n, m, has, over, at, will). (n, m, to_s e.id n has, over_s n m over, at, will));
      direct = λ e. through (is.direct e)
          (λ (o, n, m, (has, within), over, at). (o, n, m, (to_t o n has, within), over_t n m over, at))
          (λ (o, n, m, (has, within), over, at). (o, n, m, (to_s o n has, within), over_s n m over, at));
      far = λ e. through (is.far e)
          (λ (key, x, n, k, m, two_hop, (has, within), over, addr, metric, at). (key, x, n, k, m, (two_hops i key x).0 two_hop, (to_t e.via n has, within), over_t n k over, addr, metric, at))
          (λ (key, x, n, k, m, two_hop, (has, within), over, addr, metric, at). (key, x, n, k, m, (two_hops i key x).1 two_hop, (to_s e.via n has, within), over_s n k over, addr, metric, at));
    }

pub graphs_stay : GraphsStay
graphs_stay s t now later g same two_hops = (routing_stays s t now later same two_hops g, λ i. flooding_stays s t now later same two_hops i g)
