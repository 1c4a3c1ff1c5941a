-- A trip to an attached network arrives at a router that attaches it.
use Rattle.mesh_data.proofs.Common.{common_steps, ◌≡◌, ◌≢◌, ℕ, ◌+◌, ◌<◌, ◌≤◌, ◌⊎◌, inl, inr, refl, sym, ◌∙◌, ap, subst, arith, List, [], ◌∷◌, length, Contains, cases_lt, Addr4, NetAddr, Route, Scenario, metric_value, HopCosts as RadioHop, Joined, Itself, IsWillingRouter, AddressOf, Attaches, RadioLeast, At, State, LeastWilling, IsSettledNetwork, RowsAreLeast, NextHopsLead, Arrives, Goes_on, At_gateway, Holds, metric_above_zero, End, Arrived, NoArc, TooFar, Hop, Trip, IsNetworkOf, HasOneGateway, ArrivesAt, OfEachTrip, ReachesNetwork, NeverStrays, TakesRoute, Delivers, HasNoWay, IsHop, AreChained, EndsWith, At_address, At_network, Without_route, After_all, Without_arc, IsTrip}
use Rattle.mesh_data.proofs.Costs.{host_held, holds_one, at_one, either, radio_one, willing_one, walk_joined, reached, reaches, within}
use Rattle.mesh_data.proofs.Attached.{one_metric}
use Rattle.mesh_data.proofs.Longest.{least_exists, longest}
use Rattle.mesh_data.proofs.Falling.{Step, Falls, Wandered, falls, few, total}
use Rattle.mesh_data.proofs.RouterTrips.{reaches_routers}

module _ (R : RowsAreLeast) (N : NextHopsLead) (s : Scenario) (states : List State) (now : ℕ) (S : IsSettledNetwork s states now)
    (from : ℕ) (a : Addr4) (net : NetAddr) (O : IsNetworkOf s from a net) where
  -- What a router on the way does

  -- a row of an address of no router is of a network that the router doesn't attach, and no longer than the longest
  row_within : (x : ℕ) (p : State) → At states x p → Joined s from x → (row : Route) → Contains p.routes row → Holds row.dest a →
      (row.dest.prefix ≤ net.prefix) × ((k : ℕ) → Attaches s x row.dest k → ⊥)
  row_within x p at j row stands holds =
      elim (either s x row.dest row.metric ((R s states now x p S at row.dest row.metric).0 (row, stands, refl, refl))) [
        | inl r ↦
            let e : a ≡ r.a = host_held a r.a (subst (λ (n : NetAddr). Holds n a) r.is holds) in
            absurd (O.no_router r.y (subst (λ (b : Addr4). AddressOf s r.y b) (sym e) r.owned))
        | inr r ↦ (
          O.longest r.least.gateway r.least.metric row.dest (walk_joined s from x r.least.gateway r.least.way j r.least.to_gateway.reached) r.least.attached holds,
          r.not_mine,
        )
      ]

  -- router x has a row of the network, at that metric
  record Left (x c : ℕ) : Type 0 where
    pub state : State
    pub at : At states x state
    pub row : Route
    pub stands : Contains state.routes row
    pub dest : row.dest ≡ net
    pub metric : row.metric ≡ c
    pub joined : Joined s from x

  record Done (x k : ℕ) : Type 0 where
    pub attaches : Attaches s x net k
    pub joined : Joined s from x

  least_of : (x c : ℕ) → Left x c → RadioLeast s x net c
  least_of x c l = (R s states now x l.state S l.at net c).0 (l.row, l.stands, l.dest, l.metric)

  one : (x c d : ℕ) → Left x c → Left x d → c ≡ d
  one x c d l m = radio_one s states now S x c d net (least_of x c l) (least_of x d m)

  below : (x c : ℕ) → Left x c → x < length s.routers
  below x c l = within s states now S x l.state l.at

  record Chosen (x : ℕ) (row : Route) : Type 0 where
    pub dest : row.dest ≡ net
    pub left : Left x row.metric

  -- a route that is no shorter than the network is the row of the network
  chosen : (x : ℕ) (row : Route) → Joined s from x → TakesRoute s states a x row → net.prefix ≤ row.dest.prefix → Chosen x row
  chosen x row j routes long =
      let up = (row_within x routes.state routes.at j row routes.longest.stands routes.longest.holds).0 in
      let is : row.dest ≡ net = holds_one row.dest net a routes.longest.holds O.holds (omega (arith, up)) in
      record { dest = is; left = record { state = routes.state; at = routes.at; row = row; stands = routes.longest.stands; dest = is; metric = refl; joined = j } }

  held_by : (x c : ℕ) (l : Left x c) → Holds l.row.dest a
  held_by x c l = subst (λ (n : NetAddr). Holds n a) (sym l.dest) O.holds

  full : (x c : ℕ) (l : Left x c) → l.row.dest.prefix ≡ net.prefix
  full x c l = ap (λ (n : NetAddr). n.prefix) l.dest

  stands_in : (x c : ℕ) (l : Left x c) (p : State) → At states x p → Contains p.routes l.row
  stands_in x c l p at = subst (λ (q : State). Contains q.routes l.row) (at_one states x l.state p l.at at) l.stands

  taken : (x c : ℕ) (row : Route) → Left x c → TakesRoute s states a x row → Chosen x row
  taken x c row l routes = chosen x row l.joined routes (omega (arith, full x c l, routes.longest.longest l.row (stands_in x c l routes.state routes.at) (held_by x c l)))

  -- where one router alone attaches the network, the hop to it is on the least way
  exact : (x n near own c : ℕ) → Left x c → Attaches s n net own → Joined s from n → LeastWilling (RadioHop s) (IsWillingRouter s) x n near → HasOneGateway s from net → c ≡ near + own
  exact x n near own c l here there best alone = elim (either s x net c (least_of x c l)) [
    | inl r ↦ absurd (S.scenario.networks O.gateway r.y O.metric net r.a O.attaches r.owned r.is)
    | inr r ↦
        let least = r.least in
        let g : Joined s from least.gateway = walk_joined s from x least.gateway least.way l.joined least.to_gateway.reached in
        let same : least.gateway ≡ n = alone least.gateway n least.metric own g there least.attached here in
        let way : least.way ≡ near = willing_one s x n least.way near (subst (λ (y : ℕ). LeastWilling (RadioHop s) (IsWillingRouter s) x y least.way) same least.to_gateway) best in
        let metric : least.metric ≡ own = one_metric s n least.metric own net (subst (λ (y : ℕ). Attaches s y net least.metric) same least.attached) here in
        let sum : least.way + least.metric ≡ c = least.sum in
        omega arith
  ]

  step : (hop : Hop) (c : ℕ) → IsHop s states a hop → Left hop.from c → Step Left Done (IsHop s states a) (HasOneGateway s from net) (length s.routers) hop c
  step hop c is l =
      let t = taken hop.from c is.row l is.routes in
      let e : is.row.metric ≡ c = one hop.from is.row.metric c t.left l in
      let (n, near, radio, best, to, leads) = N s states now hop.from is.routes.state S is.routes.at is.row is.routes.longest.stands in
      let (same, value) = reached s states now S hop.from n near is.row to hop.to is.arc is.reaches in
      let m : hop.metric ≡ metric_value is.arc = is.metric in
      let cost : near ≡ hop.metric = value ∙ sym is.metric in
      let there : Joined s from n = walk_joined s from hop.from n near l.joined best.reached in
      record {
        above = omega (arith, metric_above_zero is.arc);
        next = elim leads [
          | Arrives {a = b} to_b here equal ↦
              let b_is : a ≡ b = host_held a b (subst (λ (d : NetAddr). Holds d a) to_b is.routes.longest.holds) in
              absurd (O.no_router n (subst (λ (x : Addr4). AddressOf s n x) (sym b_is) here))
          | Goes_on q rest at has sum ↦
              let (row, stands, dest, metric) = has in
              let on : Left n rest = record { state = q; at = at; row = row; stands = stands; dest = dest ∙ t.dest; metric = metric; joined = there } in
              inl (rest, subst (λ (y : ℕ). Left y rest) same on, omega arith)
          | At_gateway own att low ↦
              let here : Attaches s n net own = subst (λ (d : NetAddr). Attaches s n d own) t.dest att in
              inr (own, subst (λ (y : ℕ). Done y own) same (record { attaches = here; joined = there }), omega arith, λ alone. omega (arith, exact hop.from n near own c l here there best alone))
        ];
      }

  -- a router that attaches the network sends nothing on
  delivers : (x k : ℕ) (row : Route) → Done x k → TakesRoute s states a x row → ⊥
  delivers x k row done routes =
      let (up, off) = row_within x routes.state routes.at done.joined row routes.longest.stands routes.longest.holds in
      let is : row.dest ≡ net = holds_one row.dest net a routes.longest.holds O.holds (omega (arith, up, routes.within net k done.attaches O.holds)) in
      off k (subst (λ (n : NetAddr). Attaches s x n k) (sym is) done.attaches)

  way : Falls Left Done (IsHop s states a) (HasOneGateway s from net) (length s.routers)
  way = record { one = one; below = below; step = step; stuck = λ hop k is done. delivers hop.from k is.row done is.routes }

  -- with something left no trip ends
  on_the_way : (x c : ℕ) (hops : List Hop) (last : ℕ) (end : End) (added : ℕ) → Wandered Left Done (IsHop s states a) (HasOneGateway s from net) (length s.routers) x c hops last →
      EndsWith s states a last (length hops) end added → ⊥
  on_the_way x c hops last _ _ w (At_address here) = O.no_router last here
  on_the_way x c hops last _ _ w (At_network {k} off d) =
      let l = w.left in
      omega (arith, d.beyond l.row (stands_in last w.rest l d.state d.at) (held_by last w.rest l), full last w.rest l, O.longest last k d.net l.joined d.attaches d.holds)
  on_the_way x c hops last _ _ w (Without_route off d) = grind (arith, common_steps, stands_in, held_by)
  on_the_way x c hops last _ _ w (After_all off row routes made) =
      let few_hops : length hops < length s.routers = few Left Done (IsHop s states a) (HasOneGateway s from net) (length s.routers) way x c hops last w in
      omega arith
  on_the_way x c hops last _ _ w (Without_arc off row routes made none) =
      let (n, near, hop, best, to, leads) = N s states now last routes.state S routes.at row routes.longest.stands in
      none n to.there (reaches s states now S last n near row to)

  -- what a trip comes to where it ends
  record Result (end : End) (last hops metric : ℕ) : Type 0 where
    pub arrived : end ≡ Arrived
    pub k : ℕ
    pub there : Attaches s last net k
    pub sum : metric ≡ hops + k

  delivered : (last made k hops : ℕ) (end : End) (added metric : ℕ) → Done last k → EndsWith s states a last made end added → metric ≡ hops + added → Result end last hops metric
  delivered last made k hops _ _ metric done (At_address here) sum = absurd (O.no_router last here)
  delivered last made k hops _ _ metric done (At_network {k = c} off d) sum =
      let is : d.net ≡ net = holds_one d.net net a d.holds O.holds (omega (arith, d.longest net k done.attaches O.holds, O.longest last c d.net done.joined d.attaches d.holds)) in
      record { arrived = refl; k = c; there = subst (λ (n : NetAddr). Attaches s last n c) is d.attaches; sum = sum }
  delivered last made k hops _ _ metric done (Without_route off d) sum = absurd (d.no_network net k done.attaches O.holds)
  delivered last made k hops _ _ metric done (After_all off row routes made_all) sum = absurd (delivers last k row done routes)
  delivered last made k hops _ _ metric done (Without_arc off row routes less none) sum = absurd (delivers last k row done routes)

  -- At the first router

  -- a router that has no row of the network attaches it
  first_row : (row : Route) → TakesRoute s states a from row → Left from row.metric
  first_row row routes = elim (cases_lt row.dest.prefix net.prefix) [
    | inl less ↦ absurd (least_exists s S.scenario O.willing from O.gateway O.metric net O.joined O.attaches (λ k att. omega (arith, routes.within net k att O.holds)) (λ c least.
        (let (mine, stands, dest, metric) = (R s states now from routes.state S routes.at net c).1 least in
        let is : mine.dest.prefix ≡ net.prefix = ap (λ (n : NetAddr). n.prefix) dest in
        omega (arith, routes.longest.longest mine stands (subst (λ (n : NetAddr). Holds n a) (sym dest) O.holds)))))
    | inr more ↦ (chosen from row Itself routes more).left
  ]

  first_own : (k : ℕ) → Delivers s states a from k → Done from k
  first_own k d = elim (cases_lt d.net.prefix net.prefix) [
    | inl less ↦ absurd (least_exists s S.scenario O.willing from O.gateway O.metric net O.joined O.attaches (λ c att. omega (arith, d.longest net c att O.holds)) (λ c least.
        (let (mine, stands, dest, metric) = (R s states now from d.state S d.at net c).1 least in
        let is : mine.dest.prefix ≡ net.prefix = ap (λ (n : NetAddr). n.prefix) dest in
        omega (arith, d.beyond mine stands (subst (λ (n : NetAddr). Holds n a) (sym dest) O.holds)))))
    | inr more ↦
        let is : d.net ≡ net = holds_one d.net net a d.holds O.holds (omega (arith, O.longest from k d.net Itself d.attaches d.holds)) in
        record { attaches = subst (λ (n : NetAddr). Attaches s from n k) is d.attaches; joined = Itself }
  ]

  not_lost : HasNoWay s states a from → ⊥
  not_lost d = least_exists s S.scenario O.willing from O.gateway O.metric net O.joined O.attaches (λ k att. d.no_network net k att O.holds) (λ c least.
      (let (mine, stands, dest, metric) = (R s states now from d.state S d.at net c).1 least in
      d.no_route mine stands (subst (λ (n : NetAddr). Holds n a) (sym dest) O.holds)))

  -- it has a row of the network, or delivers there at once
  abbrev First : List Hop → Type 0
  First hops = ((c : ℕ) × Left from c) ⊎ ((k : ℕ) × Done from k × (hops ≡ []))

  at_end : (made : ℕ) (end : End) (added : ℕ) → EndsWith s states a from made end added → First []
  at_end made _ _ (At_address here) = absurd (O.no_router from here)
  at_end made _ _ (At_network {k} off d) = inr (k, first_own k d, refl)
  at_end made _ _ (Without_route off d) = absurd (not_lost d)
  at_end made _ _ (After_all off row routes made_all) = inl (row.metric, first_row row routes)
  at_end made _ _ (Without_arc off row routes less none) = inl (row.metric, first_row row routes)

  first : (hops : List Hop) (last made : ℕ) (end : End) (added : ℕ) → AreChained from hops last → ((hop : Hop) → Contains hops hop → IsHop s states a hop) → EndsWith s states a last made end added → First hops
  first [] last made end added e each ends = at_end made end added (subst (λ (x : ℕ). EndsWith s states a x made end added) (sym e) ends)
  first (h ∷ hs) last made end added e each ends =
      let is = each h (0, omega arith, refl) in
      inl (is.row.metric, first_row is.row (subst (λ (x : ℕ). TakesRoute s states a x is.row) e.0 is.routes))

  arrives : (t : Trip) → IsTrip s states from a t → ArrivesAt s from net t
  arrives t is = elim (first t.hops t.last (length t.hops) t.end is.added is.chain is.each is.ends) [
    | inl begun ↦
        let (c, l) = begun in
        elim (falls Left Done (IsHop s states a) (HasOneGateway s from net) (length s.routers) way t.hops from t.last c is.chain is.each l) [
          | inl w ↦ absurd (on_the_way from c t.hops t.last t.end is.added w is.ends)
          | inr came ↦
              let r = delivered t.last (length t.hops) came.k (total t.hops) t.end is.added t.metric came.done is.ends is.metric in
              let own : r.k ≡ came.k = one_metric s t.last r.k came.k net r.there came.done.attaches in
              let sum : t.metric ≡ total t.hops + r.k = r.sum in
              record {
                arrived = r.arrived;
                there = (r.k, r.there);
                here = λ k att. absurd (not_mine from c l k att);
                least = λ off alone.
                    (let e : c ≡ t.metric = omega (arith, came.exact alone) in
                    subst (λ (d : ℕ). RadioLeast s from net d) e (least_of from c l));
              }
        ]
    | inr at_once ↦
        let (k, done, none) = at_once in
        let r = delivered t.last (length t.hops) k (total t.hops) t.end is.added t.metric (subst (λ (x : ℕ). Done x k) (stays t.hops none t.last is.chain) done) is.ends is.metric in
        let sum : t.metric ≡ total t.hops + r.k = r.sum in
        let nothing : total t.hops ≡ 0 = subst (λ (hops : List Hop). total hops ≡ 0) (sym none) refl in
        let e : r.k ≡ t.metric = omega arith in
        record {
          arrived = r.arrived;
          there = (r.k, r.there);
          here = λ own att. sym e ∙ one_metric s from r.k own net (subst (λ (x : ℕ). Attaches s x net r.k) (sym (stays t.hops none t.last is.chain)) r.there) att;
          least = λ off alone. absurd (off k done.attaches);
        }
  ]
    where
      stays : (hops : List Hop) → hops ≡ [] → (last : ℕ) → AreChained from hops last → from ≡ last
      stays hops e last c = (let d : AreChained from [] last = subst (λ (h : List Hop). AreChained from h last) e c in d)

      not_mine : (x c : ℕ) → Left x c → (k : ℕ) → Attaches s x net k → ⊥
      not_mine x c l k att = (row_within x l.state l.at l.joined l.row l.stands (held_by x c l)).1 k (subst (λ (n : NetAddr). Attaches s x n k) (sym l.dest) att)

pub reaches_networks : RowsAreLeast → NextHopsLead → OfEachTrip ReachesNetwork
reaches_networks R N s states from a t is now S H =
    let (net, O) = longest R s states now S from a H t is in
    (net, O, arrives R N s states now S from a net O t is)

-- so no such trip ends on the way
not_both_ends : (end : End) → end ≡ Arrived → (end ≢ NoArc) × (end ≢ TooFar)
not_both_ends end is = (λ e. (let f : Arrived ≡ NoArc = sym is ∙ e in absurd cc), λ e. (let f : Arrived ≡ TooFar = sym is ∙ e in absurd cc))

pub never_strays : RowsAreLeast → NextHopsLead → OfEachTrip NeverStrays
never_strays R N s states from a t is now S (inl (y, c, at)) = not_both_ends t.end (reaches_routers R N s states from a t is now y c S at).0
never_strays R N s states from a t is now S (inr H) =
    let (net, O, at) = reaches_networks R N s states from a t is now S H in
    not_both_ends t.end at.arrived
