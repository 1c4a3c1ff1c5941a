-- A trip to a router's address arrives there at the least cost.
use Rattle.mesh_data.proofs.Common.{common_steps, ◌≡◌, ◌≢◌, ℕ, ◌+◌, ◌<◌, ◌≤◌, inl, inr, refl, sym, ◌∙◌, ap, subst, arith, List, [], ◌∷◌, length, Contains, Addr4, NetAddr, Route, Scenario, host, metric_value, AddressOf, RadioLeast, At, State, IsSettledNetwork, HasRow, RowsAreLeast, NextHopsLead, Arrives, Goes_on, At_gateway, Holds, owner, metric_above_zero, End, Arrived, Hop, Trip, OfEachTrip, ReachesRouter, TakesRoute, IsHop, AreChained, EndsWith, At_address, At_network, Without_route, After_all, Without_arc, IsTrip, same_host}
use Rattle.mesh_data.proofs.Costs.{host_holds, holds_one, at_one, either, radio_one, reached, reaches, within}
use Rattle.mesh_data.proofs.Falling.{Step, Falls, Wandered, Came, falls, few, total}

module _ (R : RowsAreLeast) (N : NextHopsLead) (s : Scenario) (states : List State) (now : ℕ) (S : IsSettledNetwork s states now) (a : Addr4) (z : ℕ) (is_z : AddressOf s z a) where
  -- router x has a row of the address, at that metric
  record Left (x c : ℕ) : Type 0 where
    pub state : State
    pub at : At states x state
    pub has : HasRow state (host a) c

  record Done (x c : ℕ) : Type 0 where
    pub here : AddressOf s x a
    pub nothing : c ≡ 0

  least_of : (x c : ℕ) → Left x c → RadioLeast s x (host a) c
  least_of x c l = (R s states now x l.state S l.at (host a) c).0 l.has

  -- the address is another router's
  who : (x c : ℕ) → Left x c → (y : ℕ) × (y ≢ x) × AddressOf s y a
  who x c l = elim (either s x (host a) c (least_of x c l)) [
    | inl r ↦ (r.y, r.other, subst (λ (b : Addr4). AddressOf s r.y b) (sym (same_host a r.a r.is)) r.owned)
    | inr r ↦ absurd (S.scenario.networks r.least.gateway z r.least.metric (host a) a r.least.attached is_z refl)
  ]

  one : (x c d : ℕ) → Left x c → Left x d → c ≡ d
  one x c d l m = radio_one s states now S x c d (host a) (least_of x c l) (least_of x d m)

  below : (x c : ℕ) → Left x c → x < length s.routers
  below x c l = within s states now S x l.state l.at

  -- the route that is taken is the row of the address
  record Taken (x c : ℕ) (row : Route) : Type 0 where
    pub state : State
    pub at : At states x state
    pub stands : Contains state.routes row
    pub dest : row.dest ≡ host a
    pub metric : row.metric ≡ c

  taken : (x c : ℕ) (row : Route) → Left x c → TakesRoute s states a x row → Taken x c row
  taken x c row l routes =
      let (mine, stands, e, _) = l.has in
      let same : l.state ≡ routes.state = at_one states x l.state routes.state l.at routes.at in
      let there : Contains routes.state.routes mine = subst (λ (p : State). Contains p.routes mine) same stands in
      let long : mine.dest.prefix ≤ row.dest.prefix = routes.longest.longest mine there (subst (λ (n : NetAddr). Holds n a) (sym e) (host_holds a)) in
      let full : mine.dest.prefix ≡ 32 = ap (λ (n : NetAddr). n.prefix) e in
      let is : row.dest ≡ host a = holds_one row.dest (host a) a routes.longest.holds (host_holds a) (omega (arith, row.dest.within)) in
      let left : Left x row.metric = record { state = routes.state; at = routes.at; has = (row, routes.longest.stands, is, refl) } in
      record { state = routes.state; at = routes.at; stands = routes.longest.stands; dest = is; metric = one x row.metric c left l }

  step : (hop : Hop) (c : ℕ) → IsHop s states a hop → Left hop.from c → Step Left Done (IsHop s states a) (Unit {0}) (length s.routers) hop c
  step hop c is l =
      let t = taken hop.from c is.row l is.routes in
      let (n, near, h, best, to, leads) = N s states now hop.from t.state S t.at is.row t.stands in
      let (same, value) = reached s states now S hop.from n near is.row to hop.to is.arc is.reaches in
      let cost : near ≡ hop.metric = value ∙ sym is.metric in
      let e : is.row.metric ≡ c = t.metric in
      let m : hop.metric ≡ metric_value is.arc = is.metric in
      record {
        above = omega (arith, metric_above_zero is.arc);
        next = elim leads [
          | Arrives {a = b} to_b there equal ↦
              let b_is : b ≡ a = same_host b a (sym to_b ∙ t.dest) in
              inr (0, record { here = subst (λ (y : ℕ). AddressOf s y a) same (subst (λ (x : Addr4). AddressOf s n x) b_is there); nothing = refl }, omega arith, λ _. omega arith)
          | Goes_on q rest at has sum ↦
              let on : HasRow q (host a) rest = subst (λ (d : NetAddr). HasRow q d rest) t.dest has in
              inl (rest, record { state = q; at = subst (λ (y : ℕ). At states y q) same at; has = on }, omega arith)
          | At_gateway own att low ↦
              absurd (S.scenario.networks n z own is.row.dest a att is_z t.dest)
        ];
      }

  way : Falls Left Done (IsHop s states a) (Unit {0}) (length s.routers)
  way = record { one = one; below = below; step = step; stuck = λ hop k is done. is.not_here done.here }

  not_here : (x c : ℕ) → Left x c → AddressOf s x a → ⊥
  not_here x c l here = let (y, other, owned) = who x c l in other (owner s states now S y x a owned here)

  -- what a trip comes to where it ends
  record Result (end : End) (last c metric : ℕ) : Type 0 where
    pub arrived : end ≡ Arrived
    pub there : last ≡ z
    pub exact : metric ≡ c

  -- with something left no trip ends
  on_the_way : (x c : ℕ) (hops : List Hop) (last : ℕ) (end : End) (added : ℕ) → Wandered Left Done (IsHop s states a) (Unit {0}) (length s.routers) x c hops last →
      EndsWith s states a last (length hops) end added → ⊥
  on_the_way x c hops last _ _ w (At_address here) = not_here last w.rest w.left here
  on_the_way x c hops last _ _ w (At_network {k} off d) = grind (arith, common_steps, at_one, host_holds)
  on_the_way x c hops last _ _ w (Without_route off d) = grind (arith, common_steps, at_one, host_holds)
  on_the_way x c hops last _ _ w (After_all off row routes made) =
      let l : length hops < length s.routers = few Left Done (IsHop s states a) (Unit {0}) (length s.routers) way x c hops last w in
      omega arith
  on_the_way x c hops last _ _ w (Without_arc off row routes made none) =
      let t = taken last w.rest row w.left routes in
      let (n, near, hop, best, to, leads) = N s states now last t.state S t.at row t.stands in
      none n to.there (reaches s states now S last n near row to)

  delivered : (c : ℕ) (hops : List Hop) (last : ℕ) (end : End) (added metric : ℕ) → Came Left Done (IsHop s states a) (Unit {0}) (length s.routers) c hops last →
      EndsWith s states a last (length hops) end added → metric ≡ total hops + added → Result end last c metric
  delivered c hops last _ _ metric came (At_address here) sum =
      let none : came.k ≡ 0 = came.done.nothing in
      let exact : c ≡ total hops + came.k = came.exact tt in
      record { arrived = refl; there = owner s states now S last z a here is_z; exact = omega arith }
  delivered c hops last _ _ metric came (At_network off d) sum = absurd (off came.done.here)
  delivered c hops last _ _ metric came (Without_route off d) sum = absurd (off came.done.here)
  delivered c hops last _ _ metric came (After_all off row routes made) sum = absurd (off came.done.here)
  delivered c hops last _ _ metric came (Without_arc off row routes made none) sum = absurd (off came.done.here)

  trip : (from c : ℕ) (t : Trip) → Left from c → IsTrip s states from a t → Result t.end t.last c t.metric
  trip from c t l is = elim (falls Left Done (IsHop s states a) (Unit {0}) (length s.routers) way t.hops from t.last c is.chain is.each l) [
    | inl w ↦ absurd (on_the_way from c t.hops t.last t.end is.added w is.ends)
    | inr came ↦ delivered c t.hops t.last t.end is.added t.metric came is.ends is.metric
  ]

-- a trip begins at a router
pub begins : (s : Scenario) (states : List State) (now : ℕ) → IsSettledNetwork s states now → (from : ℕ) (a : Addr4) (t : Trip) → IsTrip s states from a t → (p : State) × At states from p
begins s states now S from a t is = first t.hops is.chain is.each
  where
    at_end : (n : ℕ) (end : End) (k : ℕ) → EndsWith s states a t.last n end k → (p : State) × At states t.last p
    at_end n _ _ (At_address (r, router, _)) = S.routers.all t.last r router
    at_end n _ _ (At_network off d) = (d.state, d.at)
    at_end n _ _ (Without_route off d) = (d.state, d.at)
    at_end n _ _ (After_all off row d made) = (d.state, d.at)
    at_end n _ _ (Without_arc off row d made none) = (d.state, d.at)

    first : (hops : List Hop) → AreChained from hops t.last → ((hop : Hop) → Contains hops hop → IsHop s states a hop) → (p : State) × At states from p
    first [] e each = let (p, at) = at_end (length t.hops) t.end is.added is.ends in (p, subst (λ (x : ℕ). At states x p) (sym e) at)
    first (h ∷ hs) e each =
        let routes = (each h (0, omega arith, refl)).routes in
        (routes.state, subst (λ (x : ℕ). At states x routes.state) e.0 routes.at)

pub reaches_routers : RowsAreLeast → NextHopsLead → OfEachTrip ReachesRouter
reaches_routers R N s states from a t is now y c S reached =
    let (p, at) = begins s states now S from a t is in
    let has : HasRow p (host a) c = (R s states now from p S at (host a) c).1 reached.least in
    let l : Left R N s states now S a y reached.owner from c = record { state = p; at = at; has = has } in
    let r = trip R N s states now S a y reached.owner from c t l is in
    (r.arrived, r.there, r.exact)
