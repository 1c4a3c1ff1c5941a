-- Routes that are made from what the bases give are those of the router.
use Rattle.mesh_routes.proofs.Common.{◌≡◌, ◌≢◌, ℕ, ◌<◌, ◌⊎◌, inl, inr, refl, sym, ◌∙◌, ap, subst, arith, List, [], length, Option, Some, None, true, IsTrue, Contains, IsSome, cases_Bool, lookup-from_Contains, slice_get_within, Addr4, NetAddr, Metric, LinkKey, Link, Graph, PathRow, Route, RouterSettings, base_of, host, metric_value, RouteArc, IsOutside, IsParent, IsWayTo, IsNextHop, AreRoutes, SoundNeighbourhood, SoundTopology, State, Neighbourhood, TopologyBase, IsOriginator, link_at, is_symmetric, Walk, Least, FirstNode, AtSelf, Through, link_equiv, tests_symmetric, IsCertificate, of_each, SymmetricNeighbour, NeighbourLink, IsArcOfAll, IsGraphOf, NodeMap, first_at, IsParentIn, AreFirsts, addr_cmp, OwnerMap, owner_at, owner_by, AreOwners, Adds, IsHop, HasNoHop, HasNoRoute, route_by, AreRoutesOf, way_at, IsWayOfAll, contains_at as at_place}
use Rattle.std.specs.BTreeMap as tree
use Rattle.mesh_routes.proofs.FirstNodes.{Entry, IsFirst, first_arc, first_of, known_link}
use Rattle.mesh_routes.proofs.GraphWalks.{least_of, row_tells, row_reached}
use Rattle.mesh_routes.proofs.KnownOwners.{one_at, owner_of, owner_known}
use Rattle.mesh_routes.proofs.ListedWays.{IsWayBy, no_worse}
use Rattle.mesh_routes.proofs.Outside.{out_of, to_out, beyond}
use Rattle.mesh_routes.proofs.OwnGraph.{is_graph, base_at, base_has}

-- what the parts of the making say
pub record Made (settings : RouterSettings) (near : Neighbourhood) (topology : TopologyBase) (now : ℕ) (self : Addr4) (owners : OwnerMap) (count : ℕ) (g : Graph) (rows : List PathRow) (firsts : NodeMap) (ways : List NeighbourLink) (routes : List Route) : Type 0 where
  pub near_sound : SoundNeighbourhood settings now near
  pub topology_sound : (past : ℕ) × SoundTopology settings past topology
  pub is_self : IsOriginator settings self
  pub interfaces : length settings.interfaces ≡ count
  pub owners_are : AreOwners near.neighbours (length near.neighbours) owners
  pub ordered : tree.IsOrdered addr_cmp owners
  pub arcs : Adds (IsArcOfAll near topology count (host self) owners) [] g.arcs
  pub certificate : IsCertificate g (host self) (record { rows = rows })
  pub right : AreFirsts rows (host self) firsts
  pub all_firsts : (row : PathRow) → Contains rows row → row.node ≢ host self → IsSome (first_at firsts row.node)
  pub ways_are : Adds (IsWayOfAll near owners count) [] ways
  pub routes_are : AreRoutesOf settings firsts owners ways rows (length rows) routes

-- a way that is known
pub way_inverse : (i : ℕ) (key : LinkKey) (o : Option SymmetricNeighbour) (m : Option Metric) (w : NeighbourLink) → way_at i key o m ≡ Some w →
    (owner : SymmetricNeighbour) × (o ≡ Some owner) × ((k : Metric) × (m ≡ Some k) × (w ≡ record { originator = owner.originator; metric = metric_value k; iface = i; next = key.addr }))
way_inverse i key None m w e = absurd cc
way_inverse i key (Some owner) None w e = absurd cc
way_inverse i key (Some owner) (Some k) w e = (owner, refl, (k, refl, cc))

module _ (s : State) (now : ℕ) (self : Addr4) (owners : OwnerMap) (count : ℕ) (g : Graph) (rows : List PathRow) (firsts : NodeMap) (ways : List NeighbourLink)
    (made : Made s.settings s.bases.neighbourhood s.bases.topology now self owners count g rows firsts ways s.routes) where
  same : IsGraphOf s g
  same = is_graph s now self made.is_self made.near_sound owners made.owners_are made.ordered count (omega (arith, made.near_sound.two_hop_interfaces, made.interfaces)) g made.arcs

  -- The first node

  parent_in : (p node : NetAddr) → node ≢ host self → IsParentIn rows p node → IsParent s (host self) p node
  parent_in p node off (row, has, at, is) =
      let tells = row_tells s g same (host self) rows made.certificate node off row has at in
      subst (λ (q : NetAddr). IsParent s (host self) q node) is tells.1

  leads_back : {node f : NetAddr} → node ≢ host self → FirstNode (IsParentIn rows) (host self) node f → FirstNode (IsParent s (host self)) (host self) node f
  leads_back off (AtSelf {node = node} by) = AtSelf (parent_in (host self) node off by)
  leads_back off (Through {p = p} {node = node} by away rest) = Through (parent_in p node off by) away (leads_back away rest)

  owner_first : (f : NetAddr) (e : Entry) → IsFirst s f e → owner_at owners f.addr ≡ Some (owner_by e.0 e.1.0)
  owner_first f e (has, (both_ways, (a, within, is, _))) =
      let at : owner_at owners a ≡ Some (owner_by e.0 e.1.0) = owner_known s.settings now s.bases.neighbourhood made.near_sound owners made.owners_are e has both_ways a within in
      subst (λ (n : NetAddr). owner_at owners n.addr ≡ Some (owner_by e.0 e.1.0)) (sym is) at

  -- Ways

  -- the way by a link of a neighbour
  way_by : (e : Entry) → Contains s.bases.neighbourhood.neighbours e → IsTrue e.1.0.symmetric → (i : ℕ) (key : LinkKey) (link : Link) (until : ℕ) (k : Metric) → Contains (base_of s.bases.neighbourhood.links i) (key, (link, until)) →
      Contains e.1.0.addrs key.addr → link.link_out ≡ Some k → Contains ways (record { originator = e.0; metric = metric_value k; iface = i; next = key.addr })
  way_by e has both_ways i key link until k stands within out =
      let (base, at, _) = base_at s.bases.neighbourhood.links i (key, (link, until)) stands in
      let low : i < length s.bases.neighbourhood.links = slice_get_within s.bases.neighbourhood.links i base at in
      let w : NeighbourLink = record { originator = e.0; metric = metric_value k; iface = i; next = key.addr } in
      let known : owner_at owners key.addr ≡ Some (owner_by e.0 e.1.0) = owner_known s.settings now s.bases.neighbourhood made.near_sound owners made.owners_are e has both_ways key.addr within in
      let is : way_at i key (owner_at owners key.addr) link.link_out ≡ Some w = ap (λ (o : Option SymmetricNeighbour). way_at i key o link.link_out) known ∙ ap (λ (m : Option Metric). way_at i key (Some (owner_by e.0 e.1.0)) m) out in
      made.ways_are.has w (i, omega (arith, made.near_sound.interfaces, made.interfaces), ((key, (link, until)), stands, is))

  way_by_link : (e : Entry) → Contains s.bases.neighbourhood.neighbours e → (v : NeighbourLink) → Contains ways v → v.originator ≡ e.0 →
      IsWayBy s now e v
  way_by_link e has v stands leads = elim (made.ways_are.cases v stands) [
    | inl none ↦ let l : none.0 < 0 = none.1 in absurd (omega arith)
    | inr (i, l, (le, within, is)) ↦
        let (owner, known, (k, out, v_is)) = way_inverse i le.0 (owner_at owners le.0.addr) le.1.0.link_out v is in
        let (d, has_d, (_, (in_d, owner_is))) = owner_of s.settings now s.bases.neighbourhood made.near_sound owners made.owners_are le.0.addr owner known in
        let keys : d.0 ≡ e.0 = ap (λ (o : SymmetricNeighbour). o.originator) owner_is ∙ (sym (ap (λ (w : NeighbourLink). w.originator) v_is) ∙ leads) in
        let one : d ≡ e = one_at s.settings now s.bases.neighbourhood made.near_sound d e has_d has keys in
        let of_it : Contains e.1.0.addrs le.0.addr = subst (λ (x : Entry). Contains x.1.0.addrs le.0.addr) one in_d in
        let (base, at, in_base) = base_at s.bases.neighbourhood.links i le within in
        let found : link_at s.bases.neighbourhood i le.0 ≡ Some le.1 = lookup-from_Contains link_equiv le.0 le.1 (base_of s.bases.neighbourhood.links i) (made.near_sound.distinct_links i) within in
        let symmetric : is_symmetric le.1.0 now ≡ true = elim (cases_Bool (is_symmetric le.1.0 now)) [
          | inl t ↦ t
          | inr f ↦ let none : le.1.0.link_out ≡ None = (made.near_sound.link i le.0 le.1.0 le.1.1 found).link_out f in absurd (let b : None ≡ Some k = sym none ∙ out in cc)
        ] in
        let way : IsWayTo s now e.1.0 i le.0 k = record { link = le.1.0; stands = (base, at, (le.1.1, in_base)); state = (tests_symmetric le.1.0 now).0 symmetric; of_it = of_it; out = out } in
        let w : NeighbourLink = record { originator = owner.originator; metric = metric_value k; iface = i; next = le.0.addr } in
        let by : IsWayBy s now e w = (k, way, refl) in
        subst (IsWayBy s now e) (sym v_is) by
  ]

  -- of a neighbour with a known metric some way is known
  not_cut_off : (e : Entry) → Contains s.bases.neighbourhood.neighbours e → IsTrue e.1.0.symmetric → (k : Metric) → e.1.0.metric_out ≡ Some k → ((v : NeighbourLink) → Contains ways v → v.originator ≢ e.0) → ⊥
  not_cut_off e has both_ways k out none =
      let (i, key, link, until, stands, within, _, known) = known_link s now made.near_sound e has k out in
      none (record { originator = e.0; metric = metric_value k; iface = i; next = key.addr }) (way_by e has both_ways i key link until k stands within known) refl

  -- a row that leads outside has a hop
  has_hop : (row : PathRow) → Contains rows row → row.node ≢ host self → (o : Option NetAddr) → first_at firsts row.node ≡ o → IsSome o → HasNoHop firsts owners ways row.node → ⊥
  has_hop row has off None at some none = absurd cc
  has_hop row has off (Some f) at some none =
      let arc = first_arc (leads_back off (made.right row.node f at off)) in
      let (e, first) = first_of s now made.near_sound self made.is_self made.topology_sound f arc in
      let (within, (both_ways, (_, _, _, (k, out)))) = first in
      not_cut_off e within both_ways k out (none f (owner_by e.0 e.1.0) at (owner_first f e first))

  -- Next hops

  next_hop : (row : PathRow) → Contains rows row → row.node ≢ host self → (way : NeighbourLink) → IsHop firsts owners ways row.node way → IsNextHop s now (host self) (route_by row way)
  next_hop row has off way (f, owner, at, known, best) =
      let back : FirstNode (IsParent s (host self)) (host self) row.node f = leads_back off (made.right row.node f at off) in
      let (e, first) = first_of s now made.near_sound self made.is_self made.topology_sound f (first_arc back) in
      let owners_both : Some owner ≡ Some (owner_by e.0 e.1.0) = sym known ∙ owner_first f e first in
      let one : owner ≡ owner_by e.0 e.1.0 = cc in
      let mine : owner.originator ≡ e.0 = ap (λ (o : SymmetricNeighbour). o.originator) one in
      let (within, (both_ways, (a, in_e, is, _))) = first in
      let (k, by, cost) = way_by_link e within way best.stands (best.leads ∙ mine) in
      record {
        first = a;
        on_the_way = subst (λ (n : NetAddr). FirstNode (IsParent s (host self)) (host self) row.node n) is back;
        originator = e.0;
        neighbour = e.1.0;
        owner = (((e.1.1, within), both_ways), in_e);
        metric = k;
        way = by;
        best = λ i key m to.
            let (base, place, (until, stands)) = to.stands in
            let v : NeighbourLink = record { originator = e.0; metric = metric_value m; iface = i; next = key.addr } in
            let in_ways : Contains ways v = way_by e within both_ways i key to.link until m (base_has s.bases.neighbourhood.links i base (key, (to.link, until)) place stands) to.of_it to.out in
            no_worse way v k m cost refl (best.best v in_ways (sym mine));
      }

  -- The routes

  pub are_routes : AreRoutes s now self
  are_routes = record {
    is_self = made.is_self;
    reached = λ node c walk out. reached_at node c walk out;
    outside = λ r has.
        let (_, row, _, _, (out, (way, _, is))) = made.routes_are.each r has in
        subst (λ (x : Route). IsOutside s x.dest) is (out_of s row.node out);
    least = λ r has.
        let (k, row, _, at, (out, (way, _, is))) = made.routes_are.each r has in
        subst (λ (x : Route). Least (RouteArc s) (host self) x.dest x.metric) is (least_of s g same (host self) rows made.certificate row (at_place rows k row at));
    parent = λ r has.
        let (k, row, _, at, (out, (way, _, is))) = made.routes_are.each r has in
        let off = beyond s self made.is_self row.node (out_of s row.node out) in
        subst (λ (x : Route). IsParent s (host self) x.parent x.dest) is
        (row_tells s g same (host self) rows made.certificate row.node off row (at_place rows k row at) refl).1;
    next_hop = λ r has.
        let (k, row, _, at, (out, (way, hop, is))) = made.routes_are.each r has in
        let off = beyond s self made.is_self row.node (out_of s row.node out) in
        subst (λ (x : Route). IsNextHop s now (host self) x) is (next_hop row (at_place rows k row at) off way hop);
    ordered = made.routes_are.ordered;
  }
    where
      reached_at : (node : NetAddr) (c : ℕ) → Walk (RouteArc s) (host self) node c → IsOutside s node → (r : Route) × Contains s.routes r × (r.dest ≡ node)
      reached_at node c walk out =
          let (row, has, at) = row_reached s g same (host self) rows made.certificate node c walk in
          let out_row : IsOutside s row.node = subst (IsOutside s) (sym at) out in
          elim (of_each (λ (x : PathRow). HasNoRoute s.settings firsts owners ways x ⊎ ((r : Route) × Contains s.routes r × (x.node ≡ r.dest))) rows (length rows) (omega arith) made.routes_are.all row has) [
            | inl none ↦
                let off = beyond s self made.is_self row.node out_row in
                let no_hop = none (to_out s row.node out_row) in
                absurd (has_hop row has off (first_at firsts row.node) refl (made.all_firsts row has off) no_hop)
            | inr (r, within, to) ↦ (r, within, sym to ∙ at)
          ]
