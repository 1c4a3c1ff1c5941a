-- A router with sound bases has routes.
use Rattle.mesh_routes.proofs.Common.{◌≡◌, ◌≢◌, ◌<◌, inl, inr, ℕ, zero, suc, refl, sym, ◌∙◌, subst, arith, List, Some, Contains, Addr4, NetAddr, Metric, Graph, PathRow, Route, LinkKey, host, IsBefore, RouteArc, IsOutside, IsParent, IsWayTo, IsNextHop, AreRoutes, SoundNeighbourhood, SoundTopology, State, IsOriginator, Walk, Least, FirstNode, AtSelf, Through, tests_symmetric, IsCertificate, same_node, NeighbourLink, IsGraphOf, route_by, SameOwn, SameArcs, SameWays}
use Rattle.mesh_paths.proofs.Existing.{certificate_exists}
use Rattle.mesh_routes.specs.Existing.{RoutersHaveRoutes}
use Rattle.mesh_routes.proofs.FirstNodes.{Entry, first_arc, first_of, known_link}
use Rattle.mesh_routes.proofs.GraphWalks.{costs_of, rooted, least_of, row_tells, row_reached, walk_by, least_by}
use Rattle.mesh_routes.proofs.InOrder.{Gives, GivesOne, give_each}
use Rattle.mesh_routes.proofs.ListedWays.{way_over, no_worse, best_of}
use Rattle.mesh_routes.proofs.Making.{all_pairs}
use Rattle.mesh_routes.proofs.Outside.{beyond, outside_or_not}
use Rattle.mesh_routes.proofs.OwnArcs.{own_graph}
use Rattle.mesh_routes.proofs.OwnGraph.{base_at}
use Rattle.mesh_routes.proofs.StayingLaw.{TellsAlso, same_own, arcs_stay, parent_stays, next_hop_stays}

-- what the routes of a router say of each
pub record IsRightRow (s : State) (now : ℕ) (self : NetAddr) (row : Route) : Type 0 where
  pub outside : IsOutside s row.dest
  pub least : Least (RouteArc s) self row.dest row.metric
  pub parent : IsParent s self row.parent row.dest
  pub next_hop : IsNextHop s now self row

-- the row's node is the router's own
abbrev IsOwn : State → PathRow → Type 0
IsOwn s row = IsOutside s row.node → ⊥

-- a row gives a route, or its node is the router's own
abbrev GivesRoute : State → ℕ → Addr4 → PathRow → Type 0
GivesRoute s now self = GivesOne (λ (x : PathRow). x.node) (λ (r : Route). r.dest) IsBefore (IsRightRow s now (host self)) (IsOwn s)

-- the rows give the routes, in order
abbrev GiveRoutes : State → ℕ → Addr4 → List PathRow → List Route → Type 0
GiveRoutes s now self = Gives (λ (x : PathRow). x.node) (λ (r : Route). r.dest) IsBefore (IsRightRow s now (host self)) (IsOwn s)

-- The route of a row of a certificate

module _ (s : State) (now : ℕ) (self : Addr4) (near_sound : SoundNeighbourhood s.settings now s.bases.neighbourhood)
    (topology_sound : SoundTopology s.settings now s.bases.topology) (is_self : IsOriginator s.settings self)
    (g : Graph) (same : IsGraphOf s g) (rows : List PathRow) (found : IsCertificate g (host self) (record { rows = rows })) where
  parent_of : (row : PathRow) → Contains rows row → row.node ≢ host self → IsParent s (host self) row.parent row.node
  parent_of row has off = (row_tells s g same (host self) rows found row.node off row has refl).1

  -- parents lead back to a first node, since each costs less
  first_for : (n : ℕ) (row : PathRow) → Contains rows row → row.metric < n → row.node ≢ host self →
      (f : NetAddr) × FirstNode (IsParent s (host self)) (host self) row.node f
  first_for zero row has low off = absurd (omega arith)
  first_for (suc n) row has low off = elim (same_node row.parent (host self)) [
    | inl start ↦ (row.node, AtSelf (subst (λ (p : NetAddr). IsParent s (host self) p row.node) start (parent_of row has off)))
    | inr away ↦ elim (rooted g (costs_of s g same) (host self) rows found row has off) [
      | inl start ↦ absurd (away start)
      | inr (up, within, at, less) ↦
          let (f, way) = first_for n up within (omega arith) (λ e. away (sym at ∙ e)) in
          let from_parent = subst (λ (p : NetAddr). FirstNode (IsParent s (host self)) (host self) p f) at way in
          (f, Through (parent_of row has off) away from_parent)
    ]
  ]

  -- of a neighbour with a known metric there is a way
  some_way : (e : Entry) → Contains s.bases.neighbourhood.neighbours e → (k : Metric) → e.1.0.metric_out ≡ Some k →
      (i : ℕ) × (key : LinkKey) × (m : Metric) × IsWayTo s now e.1.0 i key m
  some_way e has k out =
      let (i, key, link, until, stands, within, symmetric, known) = known_link s now near_sound e has k out in
      let (base, place, in_base) = base_at s.bases.neighbourhood.links i (key, (link, until)) stands in
      let state = (tests_symmetric link now).0 symmetric in
      (i, key, k, record { link = link; stands = (base, place, (until, in_base)); state = state; of_it = within; out = known })

  hop_for : (row : PathRow) → Contains rows row → row.node ≢ host self → (way : NeighbourLink) × IsNextHop s now (host self) (route_by row way)
  hop_for row has off =
      let (f, back) = first_for (suc row.metric) row has (omega arith) off in
      let (e, (within, (both_ways, (a, in_e, is, (k, out))))) =
      first_of s now near_sound self is_self (now, topology_sound) f (first_arc back) in
      let (i, key, m, way) = some_way e within k out in
      let (w, by, best) = best_of s now e i key m way in
      let (metric, to, cost) = by in (
        w,
        record {
          first = a;
          on_the_way = subst (λ (n : NetAddr). FirstNode (IsParent s (host self)) (host self) row.node n) is back;
          originator = e.0;
          neighbour = e.1.0;
          owner = (((e.1.1, within), both_ways), in_e);
          metric = metric;
          way = to;
          best = λ j other x by_other. no_worse w (way_over s now e j other.addr x) metric x cost refl (best j other x by_other);
        },
      )

  -- each row that leads outside gives a route
  give : (row : PathRow) → Contains rows row → GivesRoute s now self row
  give row has = elim (outside_or_not s row.node) [
    | inl own ↦ inl own
    | inr out ↦
        let off : row.node ≢ host self = beyond s self is_self row.node out in
        let (way, hop) = hop_for row has off in
        let least = least_of s g same (host self) rows found row has in
        let right : IsRightRow s now (host self) (route_by row way) =
        record { outside = out; least = least; parent = parent_of row has off; next_hop = hop } in
        inr (route_by row way, right, refl)
  ]

-- The routes stay those of the router that has them

module _ (s : State) (routes : List Route) where
  own : SameOwn s (record s { routes = routes })
  own = same_own s (record s { routes = routes }) (λ a. (λ x. x, λ x. x)) (λ a. (λ x. x, λ x. x)) refl

  ways : (now : ℕ) → SameWays s now (record s { routes = routes }) now
  ways now = record {
    neighbours = λ o n. (λ x. x, λ x. x);
    ways = λ n i key m. (
      λ way. record { link = way.link; stands = way.stands; state = way.state; of_it = way.of_it; out = way.out },
      λ way. record { link = way.link; stands = way.stands; state = way.state; of_it = way.of_it; out = way.out },
    );
  }

  tells : TellsAlso s.bases.topology s.bases.topology
  tells = record { routers = λ key x has. (x, has, refl); addresses = λ key x has. (x, has, refl); networks = λ key x has. (x, has, refl) }

  same_arcs : (now : ℕ) → SameArcs s (record s { routes = routes })
  same_arcs now = arcs_stay own (ways now) (λ i key x. (λ h. h, λ h. h)) tells tells

  has_routes : (now : ℕ) (self : Addr4) (rows : List PathRow) → IsOriginator s.settings self →
      ((node : NetAddr) (c : ℕ) → Walk (RouteArc s) (host self) node c → (row : PathRow) × Contains rows row × (row.node ≡ node)) →
      GiveRoutes s now self rows routes →
      AreRoutes (record s { routes = routes }) now self
  has_routes now self rows is_self reached given =
      let t : State = record s { routes = routes } in
      let arcs = same_arcs now in
      let right : (r : Route) → Contains routes r → IsRightRow s now (host self) r = λ r has. (given.each r has).0 in
      record {
        is_self = is_self;
        reached = λ node c walk out.
            let (row, has, at) = reached node c (walk_by (λ a b m. (arcs a b m).1) walk) in
            elim (given.all row has) [
              | inl off ↦ absurd (off (subst (λ (n : NetAddr). IsOutside s n) (sym at) ((own.outside node).1 out)))
              | inr (r, within, to) ↦ (r, within, to ∙ at)
            ];
        outside = λ r has. (own.outside r.dest).0 (right r has).outside;
        least = λ r has. least_by (λ a b m. (arcs a b m).0) (λ a b m. (arcs a b m).1) (right r has).least;
        parent = λ r has. parent_stays s t arcs (host self) (right r has).parent;
        next_hop = λ r has. next_hop_stays s t arcs (host self) now now (ways now) r (right r has).next_hop;
        ordered = given.ordered;
      }

pub routes_exist : RoutersHaveRoutes
routes_exist s now self near_sound topology_sound is_self =
    let (g, same) = own_graph s self is_self in
    let (c, found) = certificate_exists g (host self) (costs_of s g same) in
    let (routes, given) =
    give_each (λ (x : PathRow). x.node) (λ (r : Route). r.dest) IsBefore (IsRightRow s now (host self)) (IsOwn s) c.rows
    (all_pairs c.rows found.ascending) (give s now self near_sound topology_sound is_self g same c.rows found) in
    (routes, has_routes s routes now self c.rows is_self (row_reached s g same (host self) c.rows found) given)
