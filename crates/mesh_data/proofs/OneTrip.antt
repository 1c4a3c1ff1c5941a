-- Over sound routers one trip alone leads from a router to an address.
use Rattle.mesh_data.proofs.Common.{common_steps, ◌≡◌, ℕ, ◌+◌, ◌<◌, ◌≤◌, inl, inr, refl, sym, ◌∙◌, ap, subst, arith, List, [], ◌∷◌, length, Contains, slice_index_or, AllPairs, cases_order, Addr4, NetAddr, Route, Scenario, metric_value, Leads, AddressOf, Attaches, IsSoundScenario, State, sound_scenario, End, Arrived, NoRoute, NoArc, TooFar, Hop, Trip, AreSound, IsOnly, OfEachTrip, Delivers, TakesRoute, HasNoWay, LeadsToNext, IsHop, AreChained, EndsWith, At_address, At_network, Without_route, After_all, Without_arc, not_before_itself, contains_tail as in_tail, contains_head as front}
use Rattle.std.proofs.lemmas.List.{get_or_default}
use Rattle.mesh_atoms.specs.Nodes.{IsBefore}
use Rattle.mesh_data.proofs.Attached.{one_metric}
use Rattle.mesh_data.proofs.Costs.{holds_one, at_one}
use Rattle.mesh_data.proofs.Falling.{total}

-- Of ascending routes one leads to a destination

abbrev IsAscending : List Route → Type 0
IsAscending rows = AllPairs (λ r t. IsBefore r.dest t.dest) rows

apart : (rows : List Route) → IsAscending rows → (row other : Route) (k l : ℕ) → k < l → l < length rows → slice_index_or rows k row ≡ row → slice_index_or rows l other ≡ other →
    row.dest ≡ other.dest → ⊥
apart rows up row other k l less within at_k at_l same =
    let at : slice_index_or rows l row ≡ other = get_or_default rows l row other within ∙ at_l in
    let before : IsBefore row.dest other.dest =
    subst (λ (t : Route). IsBefore row.dest t.dest) at (subst (λ (r : Route). IsBefore r.dest (slice_index_or rows l row).dest) at_k (up k l row less within)) in
    not_before_itself row.dest other.dest same before

one_route : (rows : List Route) → IsAscending rows → (row other : Route) → Contains rows row → Contains rows other → row.dest ≡ other.dest → row ≡ other
one_route rows up row other (k, in_k, at_k) (l, in_l, at_l) same = elim (cases_order k l) [
  | inl e ↦
      let there : slice_index_or rows l row ≡ row = subst (λ (n : ℕ). slice_index_or rows n row ≡ row) e at_k in
      sym there ∙ get_or_default rows l row other in_l ∙ at_l
  | inr (inl less) ↦ absurd (apart rows up row other k l less in_l at_k at_l same)
  | inr (inr less) ↦ absurd (apart rows up other row l k less in_k at_l at_k (sym same))
]

same_hop : (h g : Hop) → h.from ≡ g.from → h.iface ≡ g.iface → h.to ≡ g.to → h.metric ≡ g.metric → h ≡ g
same_hop h g from iface to metric = grind (arith, common_steps)

module _ (s : Scenario) (states : List State) (sound : AreSound states) (a : Addr4) where
  scenario : IsSoundScenario s
  scenario = sound_scenario s

  -- What a router does, it does alone

  taken_once : (x : ℕ) (row other : Route) → TakesRoute s states a x row → TakesRoute s states a x other → row ≡ other
  taken_once x row other t u =
      let same : u.state ≡ t.state = at_one states x u.state t.state u.at t.at in
      let there : Contains t.state.routes other = subst (λ (p : State). Contains p.routes other) same u.longest.stands in
      let here : Contains u.state.routes row = subst (λ (p : State). Contains p.routes row) (sym same) t.longest.stands in
      let up : other.dest.prefix ≤ row.dest.prefix = t.longest.longest other there u.longest.holds in
      let down : row.dest.prefix ≤ other.dest.prefix = u.longest.longest row here t.longest.holds in
      one_route t.state.routes (sound x t.state t.at).routes.ordered row other t.longest.stands there
      (holds_one row.dest other.dest a t.longest.holds u.longest.holds (omega arith))

  delivered_once : (x c k : ℕ) → Delivers s states a x c → Delivers s states a x k → c ≡ k
  delivered_once x c k d e =
      let nets : d.net ≡ e.net =
      holds_one d.net e.net a d.holds e.holds (omega (arith, d.longest e.net k e.attaches e.holds, e.longest d.net c d.attaches d.holds)) in
      one_metric s x c k e.net (subst (λ (n : NetAddr). Attaches s x n c) nets d.attaches) e.attaches

  not_both : (x k : ℕ) (row : Route) → Delivers s states a x k → TakesRoute s states a x row → ⊥
  not_both x k row d t =
      let same : t.state ≡ d.state = at_one states x t.state d.state t.at d.at in
      let there : Contains d.state.routes row = subst (λ (p : State). Contains p.routes row) same t.longest.stands in
      omega (arith, d.beyond row there t.longest.holds, t.within d.net k d.attaches d.holds)

  no_route : (x : ℕ) (row : Route) → HasNoWay s states a x → TakesRoute s states a x row → ⊥
  no_route x row w t = grind (arith, common_steps, at_one)

  no_network : (x k : ℕ) → HasNoWay s states a x → Delivers s states a x k → ⊥
  no_network x k w d = w.no_network d.net k d.attaches d.holds

  hop_once : (h g : Hop) → IsHop s states a h → IsHop s states a g → h.from ≡ g.from → h ≡ g
  hop_once h g p q from =
      let x = g.from in
      let row : p.row ≡ q.row = taken_once x p.row q.row (subst (λ (y : ℕ). TakesRoute s states a y p.row) from p.routes) q.routes in
      let on : LeadsToNext s x q.row h.to p.arc =
      subst (λ (r : Route). LeadsToNext s x r h.to p.arc) row (subst (λ (y : ℕ). LeadsToNext s y p.row h.to p.arc) from p.reaches) in
      let (to, face) = scenario.addresses h.to g.to on.j q.reaches.j on.settings q.reaches.settings q.row.next on.router q.reaches.router on.on q.reaches.on in
      let arc : Leads s x q.row.iface g.to q.reaches.j p.arc =
      subst (λ (j : ℕ). Leads s x q.row.iface g.to j p.arc) face (subst (λ (y : ℕ). Leads s x q.row.iface y on.j p.arc) to on.arc) in
      let metric : p.arc ≡ q.arc = scenario.arcs x q.row.iface g.to q.reaches.j p.arc q.arc arc q.reaches.arc in
      same_hop h g from (p.by ∙ ap (λ (r : Route). r.iface) row ∙ sym q.by) to (p.metric ∙ ap metric_value metric ∙ sym q.metric)

  -- where a trip ends, no hop begins
  stays : (x made k : ℕ) (end : End) (h : Hop) → EndsWith s states a x made end k → made < length s.routers → IsHop s states a h → h.from ≡ x → ⊥
  stays x made _ _ h (At_address here) less p from = p.not_here (subst (λ (y : ℕ). AddressOf s y a) (sym from) here)
  stays x made _ _ h (At_network {k} off d) less p from = not_both x k p.row d (subst (λ (y : ℕ). TakesRoute s states a y p.row) from p.routes)
  stays x made _ _ h (Without_route off w) less p from = no_route x p.row w (subst (λ (y : ℕ). TakesRoute s states a y p.row) from p.routes)
  stays x made _ _ h (After_all off row t all) less p from = omega arith
  stays x made _ _ h (Without_arc off row t _ none) less p from =
      let same : p.row ≡ row = taken_once x p.row row (subst (λ (y : ℕ). TakesRoute s states a y p.row) from p.routes) t in
      none h.to p.arc (subst (λ (r : Route). LeadsToNext s x r h.to p.arc) same (subst (λ (y : ℕ). LeadsToNext s y p.row h.to p.arc) from p.reaches))

  -- and it ends one way
  module _ (x : ℕ) where
    at_address : {made k : ℕ} {other : End} → AddressOf s x a → EndsWith s states a x made other k → (Arrived ≡ other) × (0 ≡ k)
    at_address here (At_address _) = (refl, refl)
    at_address here (At_network off _) = absurd (off here)
    at_address here (Without_route off _) = absurd (off here)
    at_address here (After_all off _ _ _) = absurd (off here)
    at_address here (Without_arc off _ _ _ _) = absurd (off here)

    at_network : {made k : ℕ} {other : End} (c : ℕ) → (AddressOf s x a → ⊥) → Delivers s states a x c → EndsWith s states a x made other k → (Arrived ≡ other) × (c ≡ k)
    at_network c off d (At_address here) = absurd (off here)
    at_network c off d (At_network {k} _ e) = (refl, delivered_once x c k d e)
    at_network c off d (Without_route _ w) = absurd (no_network x c w d)
    at_network c off d (After_all _ row t _) = absurd (not_both x c row d t)
    at_network c off d (Without_arc _ row t _ _) = absurd (not_both x c row d t)

    without_route : {made k : ℕ} {other : End} → (AddressOf s x a → ⊥) → HasNoWay s states a x → EndsWith s states a x made other k → (NoRoute ≡ other) × (0 ≡ k)
    without_route off w (At_address here) = absurd (off here)
    without_route off w (At_network {k} _ e) = absurd (no_network x k w e)
    without_route off w (Without_route _ _) = (refl, refl)
    without_route off w (After_all _ row t _) = absurd (no_route x row w t)
    without_route off w (Without_arc _ row t _ _) = absurd (no_route x row w t)

    after_all : {made k : ℕ} {other : End} (row : Route) → (AddressOf s x a → ⊥) → TakesRoute s states a x row → made ≡ length s.routers → EndsWith s states a x made other k →
        (TooFar ≡ other) × (0 ≡ k)
    after_all row off t all (At_address here) = absurd (off here)
    after_all row off t all (At_network {k} _ e) = absurd (not_both x k row e t)
    after_all row off t all (Without_route _ w) = absurd (no_route x row w t)
    after_all row off t all (After_all _ _ _ _) = (refl, refl)
    after_all row off t all (Without_arc _ _ _ less _) = absurd (omega arith)

    without_arc : {made k : ℕ} {other : End} (row : Route) → (AddressOf s x a → ⊥) → TakesRoute s states a x row → made < length s.routers → EndsWith s states a x made other k →
        (NoArc ≡ other) × (0 ≡ k)
    without_arc row off t less (At_address here) = absurd (off here)
    without_arc row off t less (At_network {k} _ e) = absurd (not_both x k row e t)
    without_arc row off t less (Without_route _ w) = absurd (no_route x row w t)
    without_arc row off t less (After_all _ _ _ all) = absurd (omega arith)
    without_arc row off t less (Without_arc _ _ _ _ _) = (refl, refl)

    ends_once : (made c k : ℕ) (end other : End) → EndsWith s states a x made end c → EndsWith s states a x made other k → (end ≡ other) × (c ≡ k)
    ends_once made _ k _ other (At_address here) e = at_address here e
    ends_once made _ k _ other (At_network {k = c} off d) e = at_network c off d e
    ends_once made _ k _ other (Without_route off w) e = without_route off w e
    ends_once made _ k _ other (After_all off row t all) e = after_all row off t all e
    ends_once made _ k _ other (Without_arc off row t less _) e = without_arc row off t less e

  -- The whole way

  abbrev AreHops : List Hop → Type 0
  AreHops hops = (h : Hop) → Contains hops h → IsHop s states a h

  record AreOne (hops others : List Hop) (last at c k : ℕ) (end other : End) : Type 0 where
    pub ways : hops ≡ others
    pub lasts : last ≡ at
    pub ends : end ≡ other
    pub adds : c ≡ k

  -- from router x, after so many hops
  same_way : (hops others : List Hop) (x made n m last at c k : ℕ) (end other : End) → AreChained x hops last → AreChained x others at → AreHops hops → AreHops others →
      n ≡ made + length hops → m ≡ made + length others → n ≤ length s.routers → m ≤ length s.routers →
      EndsWith s states a last n end c → EndsWith s states a at m other k → AreOne hops others last at c k end other
  same_way [] [] x made n m last at c k end other e f each all is_n is_m few_n few_m p q =
      let count : m ≡ n = omega arith in
      let there : at ≡ last = sym f ∙ e in
      let r : EndsWith s states a last n other k = subst (λ (i : ℕ). EndsWith s states a last i other k) count (subst (λ (y : ℕ). EndsWith s states a y m other k) there q) in
      let (ends, adds) = ends_once last n c k end other p r in
      record { ways = refl; lasts = sym there; ends = ends; adds = adds }
  same_way [] (g ∷ gs) x made n m last at c k end other e f each all is_n is_m few_n few_m p q =
      absurd (stays last n c end g p (omega arith) (all g (front g gs)) (f.0 ∙ e))
  same_way (h ∷ hs) [] x made n m last at c k end other e f each all is_n is_m few_n few_m p q =
      absurd (stays at m k other h q (omega arith) (each h (front h hs)) (e.0 ∙ f))
  same_way (h ∷ hs) (g ∷ gs) x made n m last at c k end other e f each all is_n is_m few_n few_m p q =
      let same : h ≡ g = hop_once h g (each h (front h hs)) (all g (front g gs)) (e.0 ∙ sym f.0) in
      let to : g.to ≡ h.to = ap (λ (t : Hop). t.to) (sym same) in
      let more = same_way hs gs h.to (made + 1) n m last at c k end other e.1 (subst (λ (y : ℕ). AreChained y gs at) to f.1) (λ t has. each t (in_tail h hs t has)) (λ t has. all t (in_tail g gs t has))
      (omega arith) (omega arith) few_n few_m p q in
      record {
        ways = ap (λ (t : Hop). t ∷ hs) same ∙ ap (λ (l : List Hop). g ∷ l) more.ways;
        lasts = more.lasts;
        ends = more.ends;
        adds = more.adds;
      }

same_trip : (t u : Trip) → t.hops ≡ u.hops → t.last ≡ u.last → t.end ≡ u.end → t.metric ≡ u.metric → t ≡ u
same_trip t u hops last end metric = grind (arith, common_steps)

pub one_trip : OfEachTrip IsOnly
one_trip s states from a t is sound u other =
    let one = same_way s states sound a u.hops t.hops from 0 (length u.hops) (length t.hops) u.last t.last other.added is.added u.end t.end other.chain is.chain other.each is.each
    (omega arith) (omega arith) other.few is.few other.ends is.ends in
    let sums : total u.hops ≡ total t.hops = ap total one.ways in
    let adds : other.added ≡ is.added = one.adds in
    let whole : u.metric ≡ total u.hops + other.added = other.metric in
    let mine : t.metric ≡ total t.hops + is.added = is.metric in
    same_trip u t one.ways one.lasts one.ends (omega arith)
