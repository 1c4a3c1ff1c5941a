-- What a settled network says of each router's neighbours and HELLOs, in the terms of the radio graph.
use Rattle.mesh_paths.proofs.Common.{◌≡◌, ℕ, inl, inr, refl, subst, arith, List, Contains, Some, Option, Addr4, Metric, Neighbour, RouterSettings, Scenario, metric_value, Says, SaysSymmetric, Near_in, Near_out, Link_in, Link_out, IsSaid, Adjacent, IsMetric, HopCosts, Router, AddressOf, Covers, AreRoutes, At, IsNeighbourOf, Sound, State, HasSymmetric, HasAddress, IsOriginator, HasSymmetricWith, IsSettledNetwork, contains_at, same_some}
use Rattle.mesh_atoms.specs.declared.graphs.NeighbourGraph.{NeighbourGraph}
use Rattle.mesh_atoms.specs.RelayGraphs.{IsRoutingGraph}
use Rattle.mesh_paths.proofs.RadioLaw.{adjacent_back}
use Rattle.mesh_paths.proofs.SettledDecisions.{shows_link}

pub originator_address : (r : RouterSettings) (a : Addr4) → IsOriginator r a → HasAddress r a
originator_address r a o =
    let (iface, at, first) = o in
    (0, (iface, at, contains_at iface.addrs 0 a first))

-- what the law needs of a sound state: routing relays that cover, and routes
pub record Holds (p : State) (now : ℕ) : Type 0 where
  pub graph : NeighbourGraph
  pub is_graph : IsRoutingGraph p graph
  pub covers : Covers graph p.relays.routing
  pub self : Addr4
  pub routes : AreRoutes p now self

abbrev pub holds : (p : State) (now : ℕ) → Sound p → p.last ≡ now → Holds p now
holds p now sound moment =
    let (graph, is_graph, chosen) = sound.relays.routing in
    let P : ℕ → Type 0 = λ b. AreRoutes p b sound.self in
    record { graph = graph; is_graph = is_graph; covers = chosen.covers; self = sound.self; routes = subst P moment sound.routes }

module _ (s : Scenario) (states : List State) (now : ℕ) (S : IsSettledNetwork s states now) where
  abbrev pub held : (x : ℕ) (p : State) → At states x p → Holds p now
  held x p at = holds p now (S.sound x p at) (S.moment x p at)

  pub owner : (y z : ℕ) (a : Addr4) → AddressOf s y a → AddressOf s z a → y ≡ z
  owner y z a p q =
      let (r, at, (i, on)) = p in
      let (t, to, (j, from)) = q in
      (S.scenario.addresses y z i j r t a at to on from).0

  pub same_state : {y : ℕ} {p q : State} → At states y p → At states y q → p ≡ q
  same_state a b = let e = a.is in let f = b.is in cc

  pub same_settings : {y : ℕ} {q : State} (r : RouterSettings) → At states y q → Router s y r → r ≡ q.settings
  same_settings {y} {q} r at is = let h : Router s y q.settings = S.routers.settings y q at in (cc)

  pub address_in : {y : ℕ} {q : State} (a : Addr4) → At states y q → HasAddress q.settings a → AddressOf s y a
  address_in {y} {q} a at has = (q.settings, S.routers.settings y q at, has)

  pub originator_in : {y : ℕ} {q : State} (a : Addr4) → At states y q → IsOriginator q.settings a → AddressOf s y a
  originator_in {y} {q} a at is = address_in a at (originator_address q.settings a is)

  pub has_address : {y : ℕ} {q : State} (a : Addr4) → At states y q → AddressOf s y a → HasAddress q.settings a
  has_address {y} {q} a at is =
      let (r, to, has) = is in
      let P : RouterSettings → Type 0 = λ b. HasAddress b a in
      subst P (same_settings r at to) has

  pub back : {y z : ℕ} → Adjacent s y z → Adjacent s z y
  back {y} {z} adj = adjacent_back s y z adj

  pub state_there : {y z : ℕ} → Adjacent s y z → (q : State) × At states z q
  state_there {y} {z} adj =
      let (i, j, there, home, joins) = adj in
      let (_, _, (r, at)) = S.scenario.ends y i z j there joins.out in
      S.routers.all z r at

  pub adjacent : {y z : ℕ} {m : Metric} → IsMetric s y z m → Adjacent s y z
  adjacent {m = m} is = let (i, j, home, joins) = is.some in (i, j, m, home, joins)

  pub near_of : {y z c : ℕ} → HopCosts s y z c → Adjacent s y z
  near_of hop = adjacent hop.1

  pub apart : {y z : ℕ} → Adjacent s y z → y ≡ z → ⊥
  apart {y} {z} adj e =
      let (i, j, there, home, joins) = adj in
      (S.scenario.ends y i z j there joins.out).0 e

  pub same_metric : {y z : ℕ} {m n : Metric} → IsMetric s y z m → IsMetric s y z n → metric_value m ≡ metric_value n
  same_metric {m = m} {n = n} p q =
      let (i, j, home, joins) = p.some in
      let (k, l, house, join) = q.some in
      omega (arith, p.least k l n house join, q.least i j m home joins)

  -- the tuple of a symmetric neighbour, by one of its addresses
  pub record Known (y : ℕ) (q : State) (z : ℕ) (o : Addr4) (n : Neighbour) : Type 0 where
    pub to : State
    pub at : At states z to
    pub there : Metric
    pub home : Metric
    pub metric : IsMetric s y z there
    pub metric_back : IsMetric s z y home
    pub is : IsNeighbourOf q to now there home o n

  -- the neighbour is some router
  pub known : {y : ℕ} {q : State} (o : Addr4) (n : Neighbour) → At states y q → HasSymmetric q o n → (z : ℕ) × Known y q z o n
  known {y} {q} o n at has =
      let (z, to, there, home, to_at, metric, metric_back, is) = (S.settled y q at).neighbour_from o n has in
      (z, record { to = to; at = to_at; there = there; home = home; metric = metric; metric_back = metric_back; is = is })

  pub known_address : {y z : ℕ} {q : State} {o : Addr4} {n : Neighbour} → (k : Known y q z o n) → (a : Addr4) → Contains n.addrs a → AddressOf s z a
  known_address k a has = address_in a k.at ((k.is.addresses a).0 has)

  pub known_originator : {y z : ℕ} {q : State} {o : Addr4} {n : Neighbour} → (k : Known y q z o n) → AddressOf s z o
  known_originator {o = o} k = originator_in o k.at k.is.originator_is

  -- and the router z, where an address of z is among the neighbour's
  pub known_by : {y : ℕ} {q : State} (a o : Addr4) (n : Neighbour) (z : ℕ) → At states y q → HasSymmetricWith q a o n → AddressOf s z a → Known y q z o n
  known_by {y} {q} a o n z at has is =
      let (v, k) = known o n at has.0 in
      let P : ℕ → Type 0 = λ b. Known y q b o n in
      subst P (owner v z a (known_address k a has.1) is) k

  pub known_as : {y : ℕ} {q : State} (o : Addr4) (n : Neighbour) (z : ℕ) → At states y q → HasSymmetric q o n → AddressOf s z o → Known y q z o n
  known_as {y} {q} o n z at has is =
      let (v, k) = known o n at has in
      let P : ℕ → Type 0 = λ b. Known y q b o n in
      subst P (owner v z o (known_originator k) is) k

  -- each adjacent router is a symmetric neighbour
  pub record Neighbouring (y : ℕ) (q : State) (z : ℕ) : Type 0 where
    pub o : Addr4
    pub n : Neighbour
    pub has : HasSymmetric q o n
    pub k : Known y q z o n

  pub neighbouring : {y : ℕ} {q : State} (z : ℕ) → At states y q → Adjacent s y z → Neighbouring y q z
  neighbouring {y} {q} z at adj =
      let (to, to_at) = state_there adj in
      let (o, n, there, home, has, metric, metric_back, is) = (S.settled y q at).neighbour_to z to to_at adj in
      record {
        o = o;
        n = n;
        has = has;
        k = record { to = to; at = to_at; there = there; home = home; metric = metric; metric_back = metric_back; is = is };
      }

  pub has_with : {y z : ℕ} {q : State} → (b : Neighbouring y q z) → (a : Addr4) → AddressOf s z a → HasSymmetricWith q a b.o b.n
  has_with b a is = (b.has, (b.k.is.addresses a).1 (has_address a b.k.at is))

  pub hop_of : {y z : ℕ} (m n : Metric) → IsMetric s y z m → m ≡ n → HopCosts s y z (metric_value n)
  hop_of {y} {z} m n is e = let P : Metric → Type 0 = λ b. IsMetric s y z b in (n, subst P e is, refl)

  -- What a HELLO shows of an address of router u

  pub near_in_is : {w : ℕ} {q : State} (j u : ℕ) (a : Addr4) (m : Metric) → At states w q → AddressOf s u a → Says q j now a (Near_in m) → HopCosts s u w (metric_value m)
  near_in_is j u a m at is shows =
      let (o, n, has, e) = shows in
      let k = known_by a o n u at has is in
      hop_of k.home m k.metric_back (same_some k.is.metric_in e)

  pub near_out_is : {w : ℕ} {q : State} (j u : ℕ) (a : Addr4) (m : Metric) → At states w q → AddressOf s u a → Says q j now a (Near_out m) → HopCosts s w u (metric_value m)
  near_out_is j u a m at is shows =
      let (o, n, has, e) = shows in
      let k = known_by a o n u at has is in
      hop_of k.there m k.metric (same_some k.is.metric_out e)

  pub shown_near : {w : ℕ} {q : State} (j : ℕ) (a : Addr4) → At states w q → SaysSymmetric q j now a → (u : ℕ) × AddressOf s u a × Adjacent s w u
  shown_near {w} {q} j a at shows = elim shows [
    | inl by_link ↦
        let (link, (key, stands, has, symmetric)) = by_link in
        let (u, k, to, there, home, to_at, joins, is) = (S.settled w q at).link_from j key link stands symmetric in
        (u, address_in a to_at (k, (is.addresses a).0 has), (j, k, there, home, joins))
    | inr other ↦
        let ((o, n, has), _) = other in
        let (u, k) = known o n at has.0 in
        (u, known_address k a has.1, adjacent k.metric)
  ]

  pub shown_in : {w : ℕ} {q : State} (j u : ℕ) (a : Addr4) (m : Metric) (shown : Option Metric) → At states w q → AddressOf s u a → SaysSymmetric q j now a →
      shown ≡ Some m → IsSaid (λ i. Says q j now a (Near_in i)) (λ i. Says q j now a (Link_in i)) shown → HopCosts s u w (metric_value m)
  shown_in {w} {q} j u a m shown at is shows e given =
      let P : Option Metric → Type 0 = λ b. IsSaid (λ i. Says q j now a (Near_in i)) (λ i. Says q j now a (Link_in i)) b in
      let here : P (Some m) = subst P e given in
      elim here [
        | inl near ↦ near_in_is j u a m at is near
        | inr link ↦
            let (v, is_v, adj) = shown_near j a at shows in
            let b = neighbouring v at adj in
            absurd (link.0 b.k.home (b.o, b.n, has_with b a is_v, b.k.is.metric_in))
      ]

  pub shown_out : {w : ℕ} {q : State} (j u : ℕ) (a : Addr4) (m : Metric) (shown : Option Metric) → At states w q → AddressOf s u a → SaysSymmetric q j now a →
      shown ≡ Some m → IsSaid (λ i. Says q j now a (Near_out i)) (λ i. Says q j now a (Link_out i)) shown → HopCosts s w u (metric_value m)
  shown_out {w} {q} j u a m shown at is shows e given =
      let P : Option Metric → Type 0 = λ b. IsSaid (λ i. Says q j now a (Near_out i)) (λ i. Says q j now a (Link_out i)) b in
      let here : P (Some m) = subst P e given in
      elim here [
        | inl near ↦ near_out_is j u a m at is near
        | inr link ↦
            let (v, is_v, adj) = shown_near j a at shows in
            let b = neighbouring v at adj in
            absurd (link.0 b.k.there (b.o, b.n, has_with b a is_v, b.k.is.metric_out))
      ]

  -- each neighbour's address is shown SYMMETRIC
  pub shows_neighbour : {w u : ℕ} {q : State} (j : ℕ) (a : Addr4) → Neighbouring w q u → AddressOf s u a → SaysSymmetric q j now a
  shows_neighbour {q = q} j a b is = elim (shows_link q j now a) [
    | inl by_link ↦ inl by_link
    | inr none ↦ inr ((b.o, b.n, has_with b a is), none)
  ]
