-- In a settled network the routes are those of the radio graph, and next hops lead on.
use Rattle.mesh_paths.proofs.Common.{◌+◌, ◌<◌, zero, suc, ◌≡◌, ℕ, ◌≤◌, ◌↔◌, inl, inr, refl, sym, ◌∙◌, ap, subst, arith, List, Contains, Addr4, NetAddr, Scenario, RouterSettings, host, metric_value, HopCosts, IsWillingRouter, Joins, AddressOf, Attaches, RadioLeast, To_router, To_network, RouteArc, IsOutside, IsParent, IsNextHop, At, State, Least, LeastWilling, Fits, FirstNode, AtSelf, Through, IsSettledNetwork, HasRow, RowsAreLeast, NextHopsLead, LeadsOn, Arrives, Goes_on, At_gateway, HopsTo, Has_it, Attaches_it, Next, TripEnds, TripsEnd, same_host, metric_above_zero, same_some}
use Rattle.mesh_atoms.specs.declared.graphs.Route.{Route}
use Rattle.mesh_paths.proofs.SettledWalks.{View}
use Rattle.mesh_paths.proofs.SettledLeast.{row_least, least_row, row_least_net, least_row_net}
use Rattle.mesh_paths.proofs.SettledHops.{ends_at, same_least, next_hop, next_hop_net, LeadsTo, LeadsToNet}
use Rattle.mesh_paths.proofs.SettledNeighbours.{held, owner, address_in, has_address, same_settings, originator_address, known_by, known_address, same_metric, state_there, near_of}
use Rattle.mesh_paths.proofs.SettledArcs.{view}

module _ (s : Scenario) (states : List State) (now : ℕ) (S : IsSettledNetwork s states now) where
  abbrev V : (x : ℕ) (p : State) → At states x p → View NetAddr
  V x p at = view s states now S x p at

  abbrev self : (x : ℕ) (p : State) → At states x p → NetAddr
  self x p at = host (held s states now S x p at).self

  -- a router's own attached network, as a setting and as what it attaches
  not_attached : (x : ℕ) (p : State) (dest : NetAddr) → At states x p → IsOutside p dest → (k : ℕ) → Attaches s x dest k → ⊥
  not_attached x p dest at outside k att =
      let (r, is, t, stands, net, _) = att in
      let P : RouterSettings → Type 0 = λ b. Contains b.attached t in
      outside.no_network t (subst P (same_settings s states now S r at is) stands) net

  outside_address : (x y : ℕ) (p : State) (a : Addr4) → At states x p → AddressOf s y a → (y ≡ x → ⊥) → IsOutside p (host a)
  outside_address x y p a at is other = record {
    no_address = λ b mine e.
        (let P : Addr4 → Type 0 = λ i. AddressOf s x i in
        other (owner s states now S y x a is (subst P (sym (same_host a b e)) (address_in s states now S b at mine))));
    no_network = λ t stands e. S.scenario.networks x y (metric_value t.metric) (host a) a (p.settings, S.routers.settings x p at, t, stands, e, refl) is refl;
  }

  outside_net : (x : ℕ) (p : State) (dest : NetAddr) (g k : ℕ) → At states x p → Attaches s g dest k → ((k' : ℕ) → Attaches s x dest k' → ⊥) → IsOutside p dest
  outside_net x p dest g k at att mine = record {
    no_address = λ b has. S.scenario.networks g x k dest b att (address_in s states now S b at has);
    no_network = λ t stands e. mine (metric_value t.metric) (p.settings, S.routers.settings x p at, t, stands, e, refl);
  }

  -- the row of a destination whose least cost is known
  row_of : (x : ℕ) (p : State) (at : At states x p) (dest : NetAddr) (c : ℕ) → IsOutside p dest → Least (RouteArc p) (self x p at) dest c → HasRow p dest c
  row_of x p at dest c outside least =
      let routes = (held s states now S x p at).routes in
      let (row, stands, e) = routes.reached dest c least.reached outside in
      let P : NetAddr → Type 0 = λ b. Least (RouteArc p) (self x p at) b row.metric in
      (row, stands, e, same_least NetAddr (V x p at) (subst P e (routes.least row stands)) least)

  least_is : (x : ℕ) (p : State) → At states x p → (dest : NetAddr) (c : ℕ) → RadioLeast s x dest c → HasRow p dest c
  least_is x p at _ c (To_router {y = y} {a = a} other is least) =
      row_of x p at (host a) c (outside_address x y p a at is other) (least_row NetAddr (V x p at) y (host a) c (a, refl, is) other least)
  least_is x p at dest c (To_network mine least) =
      row_of x p at dest c (outside_net x p dest least.gateway least.metric at least.attached mine) (least_row_net NetAddr (V x p at) dest c mine least)

  is_least : (x : ℕ) (p : State) (at : At states x p) (dest : NetAddr) (c : ℕ) → IsOutside p dest → Least (RouteArc p) (self x p at) dest c → RadioLeast s x dest c
  is_least x p at dest c outside least = elim (ends_at NetAddr (V x p at) least.reached) [
    | inl here ↦ absurd (outside.no_address (held s states now S x p at).self (originator_address p.settings (held s states now S x p at).self (held s states now S x p at).routes.is_self) (sym here))
    | inr (inl router) ↦
        let (y, (a, e, is)) = router in
        let other : y ≡ x → ⊥ = λ f.
        (let P : ℕ → Type 0 = λ b. AddressOf s b a in
        outside.no_address a (has_address s states now S a at (subst P f is)) e) in
        let P : NetAddr → Type 0 = λ b. RadioLeast s x b c in
        subst P (sym e) (To_router other is (row_least NetAddr (V x p at) y dest c (a, e, is) other least))
    | inr (inr net) ↦
        let (g, k, att) = net in
        let mine = not_attached x p dest at outside in
        To_network mine (row_least_net NetAddr (V x p at) dest c g k att mine least)
  ]

  rows_are_least : (x : ℕ) (p : State) → At states x p → (dest : NetAddr) (c : ℕ) → HasRow p dest c ↔ RadioLeast s x dest c
  rows_are_least x p at dest c = (
    (λ has.
        (let (row, stands, e, f) = has in
        let routes = (held s states now S x p at).routes in
        let P : NetAddr → Type 0 = λ b. RadioLeast s x b c in
        let Q : ℕ → Type 0 = λ b. Least (RouteArc p) (self x p at) row.dest b in
        subst P e (is_least x p at row.dest c (routes.outside row stands) (subst Q f (routes.least row stands))))),
    least_is x p at dest c,
  )

pub settled_rows : RowsAreLeast
settled_rows s states now x p S at dest c = rows_are_least s states now S x p at dest c

module _ (s : Scenario) (states : List State) (now : ℕ) (S : IsSettledNetwork s states now) where
  -- a parent is a node that fits
  fitting : {p : State} {self node first : NetAddr} → FirstNode (IsParent p self) self node first → FirstNode (Fits (RouteArc p) self) self node first
  fitting (AtSelf parent) = AtSelf parent.fits
  fitting (Through parent off more) = Through parent.fits off (fitting more)

  -- the least link of the neighbour costs what the neighbour costs
  hop_by_link : (x : ℕ) (p : State) (at : At states x p) (row : Route) (h : IsNextHop p now (self s states now S x p at) row) (n near : ℕ) →
      HopCosts s x n near → AddressOf s n h.first → HopsTo s states x row.iface n row.next near
  hop_by_link x p at row h n near hop is =
      let k = known_by s states now S h.first h.originator h.neighbour n at h.owner is in
      let (y, j, q, there, back, q_at, joins, by) = (S.settled x p at).link_from row.iface (record { addr = row.next }) h.way.link h.way.stands h.way.state in
      let on_y : AddressOf s y row.next = address_in s states now S row.next q_at (j, by.keyed.0) in
      let same : y ≡ n = owner s states now S y n row.next on_y (known_address s states now S k row.next h.way.of_it) in
      let this : metric_value there ≡ metric_value h.metric = ap metric_value (same_some by.link_out h.way.out) in
      -- the cheapest of the joined interfaces has a link, which is no cheaper than the row's
      let (i, l, home, best) = k.metric.some in
      let (key, link, stands, symmetric, given) = (S.settled x p at).link_to i n l k.to k.there home k.at best in
      let of_it : Contains h.neighbour.addrs key.addr = (k.is.addresses key.addr).1 (l, given.keyed.0) in
      let low : metric_value h.metric ≤ metric_value k.there = elim (h.best i key k.there (record { link = link; stands = stands; state = symmetric; of_it = of_it; out = given.link_out })) [
        | inl less ↦ omega arith
        | inr more ↦ omega (arith, more.0)
      ] in
      let P : ℕ → Type 0 = λ b. Joins s x row.iface b j there back in
      let joined : Joins s x row.iface n j there back = subst P same joins in
      let up : metric_value k.there ≤ metric_value there = k.metric.least row.iface j there back joined in
      let whole : metric_value k.there ≡ near = same_metric s states now S k.metric hop.1 ∙ hop.2 in
      let Q : ℕ → Type 0 = λ b. At states b q in
      record { j = j; q = q; at = subst Q same q_at; there = there; back = back; joins = joined; on = by.keyed.0; value = omega arith }

  leads_router : (x z : ℕ) (p : State) (at : At states x p) (a : Addr4) (n near : ℕ) (c : ℕ) → AddressOf s z a → HopCosts s x n near →
      LeadsTo NetAddr (V s states now S x p at) n z c near → LeadsOn s states (host a) n near c
  leads_router x z p at a n near c is hop way = elim way.leads [
    | inl here ↦
        let P : ℕ → Type 0 = λ b. AddressOf s b a in
        Arrives refl (subst P here.0 is) here.1
    | inr on ↦
        let (other, rest, least, sum) = on in
        let (q, q_at) = state_there s states now S (near_of s states now S hop) in
        Goes_on q rest q_at ((settled_rows s states now n q S q_at (host a) rest).1 (To_router other is least)) sum
  ]

  leads_net : (x : ℕ) (p : State) (at : At states x p) (dest : NetAddr) (n near : ℕ) (c : ℕ) → HopCosts s x n near →
      LeadsToNet NetAddr (V s states now S x p at) n dest c near → LeadsOn s states dest n near c
  leads_net x p at dest n near c hop way = elim way.leads [
    | inl here ↦ At_gateway here.0 here.1 here.2
    | inr on ↦
        let (off, rest, least, sum) = on in
        let (q, q_at) = state_there s states now S (near_of s states now S hop) in
        Goes_on q rest q_at ((settled_rows s states now n q S q_at dest rest).1 (To_network off least)) sum
  ]

  next_hops_lead : (x : ℕ) (p : State) (at : At states x p) (row : Route) → Contains p.routes row →
      (n near : ℕ) × HopCosts s x n near × LeastWilling (HopCosts s) (IsWillingRouter s) x n near × HopsTo s states x row.iface n row.next near × LeadsOn s states row.dest n near row.metric
  next_hops_lead x p at row stands =
      let routes = (held s states now S x p at).routes in
      let h = routes.next_hop row stands in
      let least = routes.least row stands in
      let outside = routes.outside row stands in
      let along = fitting h.on_the_way in
      elim (ends_at NetAddr (V s states now S x p at) least.reached) [
        | inl here ↦ absurd (outside.no_address (held s states now S x p at).self (originator_address p.settings (held s states now S x p at).self routes.is_self) (sym here))
        | inr (inl router) ↦
            let (z, (a, e, is)) = router in
            let other : z ≡ x → ⊥ = λ f.
            (let P : ℕ → Type 0 = λ b. AddressOf s b a in
            outside.no_address a (has_address s states now S a at (subst P f is)) e) in
            let (n, near, here, way) = next_hop NetAddr (V s states now S x p at) z row.dest (host h.first) row.metric (a, e, is) other least along in
            let (b, f, is_n) = here in
            let P : Addr4 → Type 0 = λ i. AddressOf s n i in
            let Q : NetAddr → Type 0 = λ i. LeadsOn s states i n near row.metric in (
              n,
              near,
              way.hop,
              way.best,
              hop_by_link x p at row h n near way.hop (subst P (sym (same_host h.first b f)) is_n),
              subst Q (sym e) (leads_router x z p at a n near row.metric is way.hop way),
            )
        | inr (inr net) ↦
            let (g, k, att) = net in
            let mine = not_attached s states now S x p row.dest at outside in
            let (n, near, here, way) = next_hop_net NetAddr (V s states now S x p at) g k row.dest (host h.first) row.metric att mine least along in
            let (b, f, is_n) = here in
            let P : Addr4 → Type 0 = λ i. AddressOf s n i in (
              n,
              near,
              way.hop,
              way.best,
              hop_by_link x p at row h n near way.hop (subst P (sym (same_host h.first b f)) is_n),
              leads_net x p at row.dest n near row.metric way.hop way,
            )
      ]

pub settled_next_hops : NextHopsLead
settled_next_hops s states now x p S at row stands = next_hops_lead s states now S x p at row stands

module _ (s : Scenario) (states : List State) (now : ℕ) (S : IsSettledNetwork s states now) where
  -- one hop before a trip that ends
  hop_on : (x n near rest : ℕ) (p : State) (row : Route) → At states x p → Contains p.routes row → HopsTo s states x row.iface n row.next near →
      TripEnds s states n row.dest rest → row.metric ≡ near + rest → TripEnds s states x row.dest row.metric
  hop_on x n near rest p row at stands hop more sum = record {
    total = near + more.total;
    trip = Next p row at stands refl hop more.trip;
    no_less = omega (arith, more.no_less);
    exact = λ y a e is. (let same : more.total ≡ rest = more.exact y a e is in omega arith);
  }

  -- a trip ends, if each one from a row of lesser metric does
  step : (x : ℕ) (p : State) → At states x p → (row : Route) → Contains p.routes row →
      ((n rest : ℕ) (q : State) → At states n q → rest < row.metric → HasRow q row.dest rest → TripEnds s states n row.dest rest) →
      TripEnds s states x row.dest row.metric
  step x p at row stands further =
      let (n, near, hop, best, way, leads) = settled_next_hops s states now x p S at row stands in
      let value : metric_value hop.0 ≡ near = hop.2 in
      let pos : 1 ≤ metric_value hop.0 = metric_above_zero hop.0 in
      elim leads [
        | Arrives {a = a} e is equal ↦
            hop_on x n near 0 p row at stands way
            (record { total = 0; trip = Has_it e is; no_less = omega arith; exact = λ y b f was. refl }) (omega arith)
        | Goes_on q rest q_at has sum ↦ hop_on x n near rest p row at stands way (further n rest q q_at (omega arith) has) sum
        | At_gateway own att low ↦ record {
          total = near + own;
          trip = Next p row at stands refl way (Attaches_it att);
          no_less = low;
          exact = λ y a e is. absurd (S.scenario.networks n y own row.dest a att is e);
        }
      ]

  trips_end : (fuel x : ℕ) (p : State) → At states x p → (row : Route) → Contains p.routes row → row.metric ≤ fuel → TripEnds s states x row.dest row.metric
  trips_end zero x p at row stands le = step x p at row stands (λ n rest q q_at less has. absurd (omega arith))
  trips_end (suc fuel) x p at row stands le = step x p at row stands (λ n rest q q_at less has.
      (let (next, next_stands, e, f) = has in
      let low : next.metric ≤ fuel = omega arith in
      let more = trips_end fuel n q q_at next next_stands low in
      let P : NetAddr → Type 0 = λ b. TripEnds s states n b next.metric in
      let Q : ℕ → Type 0 = λ b. TripEnds s states n row.dest b in
      subst Q f (subst P e more)))

pub settled_trips : TripsEnd
settled_trips s states now x p S at row stands = trips_end s states now S row.metric x p at row stands (omega arith)
