-- The arcs of a router's own graph in a settled network, in the terms of the radio graph.
use Rattle.mesh_paths.proofs.Common.{common_steps, ◌≡◌, ℕ, ◌≤◌, ◌⊎◌, inl, inr, refl, sym, ◌∙◌, ap, subst, arith, List, Contains, Addr4, NetAddr, Metric, RouterSettings, Scenario, Willing as Wills, Advertises, AdvertisesNetwork, host, metric_value, HopCosts, Joined, Itself, By, Router, IsWillingRouter, AddressOf, OriginatorOf, Attaches, RouteArc, To_neighbour, To_two_hop, By_router, By_address, By_network, At, IsPeer, IsStray, State, IsOriginator, IsSettledNetwork, metric_above_zero, same_host, same_some}
use Rattle.mesh_atoms.specs.declared.tuples.NetworkTuple.{NetworkTuple}
use Rattle.mesh_paths.proofs.SettledDecisions.{attaches}
use Rattle.mesh_paths.proofs.SettledWalks.{View}
use Rattle.mesh_paths.proofs.SettledNeighbours.{originator_address, held, owner, same_settings, address_in, state_there, near_of, apart, same_metric, known, known_address, known_by, neighbouring, has_with, hop_of, shown_near, shown_out}
use Rattle.mesh_paths.proofs.SettledRelays.{IsRelayOf, relays_willing, cover, gives, takes}

module _ (s : Scenario) (states : List State) (now : ℕ) (S : IsSettledNetwork s states now) where
  -- Router x's own graph

  abbrev pub NodeOf : ℕ → NetAddr → Type 0
  NodeOf y node = (a : Addr4) × (node ≡ host a) × AddressOf s y a

  abbrev pub OriginNode : ℕ → NetAddr → Type 0
  OriginNode y node = (a : Addr4) × (node ≡ host a) × OriginatorOf s y a

  pub origin_node : (y : ℕ) (o : NetAddr) → OriginNode y o → NodeOf y o
  origin_node y o first =
      let (a, e, (r, at, is)) = first in
      (a, e, (r, at, originator_address r a is))

  pub first_of : {y : ℕ} {q : State} (a : Addr4) → At states y q → IsOriginator q.settings a → OriginNode y (host a)
  first_of {y} {q} a at is = (a, refl, (q.settings, S.routers.settings y q at, is))

  -- an originator of the router, as one of its state
  pub originator_at : {y : ℕ} {q : State} (a : Addr4) → At states y q → OriginatorOf s y a → IsOriginator q.settings a
  originator_at {y} {q} a at first =
      let (r, to, is) = first in
      let P : RouterSettings → Type 0 = λ b. IsOriginator b a in
      subst P (same_settings s states now S r at to) is

  pub router_of_joined : {x y : ℕ} → ((r : RouterSettings) × Router s x r) → Joined s x y → (r : RouterSettings) × Router s y r
  router_of_joined start Itself = start
  router_of_joined start (By way adj) = let (q, at) = state_there s states now S adj in (q.settings, S.routers.settings _ q at)

  pub has_origin : (x : ℕ) (p : State) → At states x p → (y : ℕ) → Joined s x y → (o : NetAddr) × OriginNode y o
  has_origin x p at y joined =
      let (r, is) = router_of_joined (p.settings, S.routers.settings x p at) joined in
      let (a, first) = S.scenario.originators y r is in
      (host a, (a, refl, (r, is, first)))

  pub peer : (x w : ℕ) → (w ≡ x → ⊥) → Joined s x w → (r : RouterSettings) → Router s w r → (q : State) × IsPeer s states x w q
  peer x w other joined r is =
      let (q, at) = S.routers.all w r is in
      (q, record { other = other; joined = joined; at = at })

  pub arc_at : (p : State) (m n : NetAddr) (a b : Addr4) (c d : ℕ) → m ≡ host a → n ≡ host b → c ≡ d → RouteArc p (host a) (host b) c → RouteArc p m n d
  arc_at p m n a b c d e f g arc = grind (arith, common_steps)

  pub own_arc : (x : ℕ) (p : State) (at : At states x p) (y m : ℕ) (a : NetAddr) → HopCosts s x y m → NodeOf y a → RouteArc p (host (held s states now S x p at).self) a m
  own_arc x p at y m a hop node =
      let (b, e, is) = node in
      let n = neighbouring s states now S y at (near_of s states now S hop) in
      arc_at p (host (held s states now S x p at).self) a (held s states now S x p at).self b (metric_value n.k.there) m refl e (same_metric s states now S n.k.metric hop.1 ∙ hop.2)
      (To_neighbour n.o n.n (held s states now S x p at).routes.is_self (has_with s states now S n b is) n.k.is.metric_out)

  pub relay_arc : (x : ℕ) (p : State) (at : At states x p) (w z m : ℕ) (o a : NetAddr) → Joined s x w → (w ≡ x → ⊥) → IsRelayOf s states now S z w → HopCosts s w z m → OriginNode w o → NodeOf z a → RouteArc p o a m
  relay_arc x p at w z m o a joined other relay hop first node =
      let (b, e, is) = node in
      let (c, f, start) = first in
      let (q, who) = peer x w other joined start.0 start.1 in
      let g = gives s states now S b m who.at relay hop is in
      arc_at p o a c b (metric_value g.m) m f e g.value
      (By_address (record { ansn = q.ansn; metric = g.m })
      ((S.settled x p at).address_to w q (record { from = c; addr = b }) (record { ansn = q.ansn; metric = g.m }) who
      (record { from = originator_at c who.at start; metric = g.row; ansn = refl })))

  pub net_arc : (x : ℕ) (p : State) (at : At states x p) (g k : ℕ) (o a : NetAddr) → Joined s x g → (g ≡ x → ⊥) → Attaches s g a k → OriginNode g o → RouteArc p o a k
  net_arc x p at g k o a joined other att first =
      let (c, f, start) = first in
      let (q, who) = peer x g other joined start.0 start.1 in
      let (r, is, t, stands, net, value) = att in
      let P : RouterSettings → Type 0 = λ b. Contains b.attached t in
      let row : AdvertisesNetwork q a t.distance t.metric = record {
        attached = t;
        stands = subst P (same_settings s states now S r who.at is) stands;
        at_net = net;
        at_distance = refl;
        at_metric = refl;
        no_address = λ b m shown. (let h = takes s states now S b m who.at shown in S.scenario.networks g h.z k a b att h.is);
      } in
      let tuple : NetworkTuple = record { ansn = q.ansn; distance = t.distance; metric = t.metric } in
      let has = (S.settled x p at).network_to g q (record { from = c; net = a }) tuple who (record { from = originator_at c who.at start; row = row; ansn = refl }) in
      let Q : NetAddr → Type 0 = λ i. RouteArc p i a k in
      let R : ℕ → Type 0 = λ i. RouteArc p (host c) a i in
      subst Q (sym f) (subst R value (By_network tuple has))

  pub attaches_of : {g : ℕ} {q : State} (net : NetAddr) (d : ℕ) (m : Metric) → At states g q → AdvertisesNetwork q net d m → Attaches s g net (metric_value m)
  attaches_of {g} {q} net d m at row = (q.settings, S.routers.settings g q at, row.attached, row.stands, row.at_net, ap metric_value row.at_metric)

  abbrev pub ArcCase : ℕ → NetAddr → NetAddr → ℕ → Type 0
  ArcCase x m n c =
      ((y : ℕ) × OriginNode x m × HopCosts s x y c × NodeOf y n)
      ⊎ (((w y : ℕ) × (w ≡ x → ⊥) × OriginNode w m × IsWillingRouter s w × HopCosts s w y c × NodeOf y n)
      ⊎ (((g : ℕ) × (g ≡ x → ⊥) × OriginNode g m × Attaches s g n c)
      ⊎ ((v : ℕ) × (v ≡ x → ⊥) × NodeOf v m × (Joined s x v → ⊥))))

  pub stray_case : (x : ℕ) (a : Addr4) (n : NetAddr) (c : ℕ) → IsStray s x a → ArcCase x (host a) n c
  stray_case x a n c stray = let (v, other, off, is) = stray in inr (inr (inr (v, other, (a, refl, is), off)))

  pub tc_case : (x w : ℕ) (q : State) (from to : Addr4) (m : Metric) → IsPeer s states x w q → IsOriginator q.settings from → Advertises q to m → ArcCase x (host from) (host to) (metric_value m)
  tc_case x w q from to m who first row =
      let h = takes s states now S to m who.at row in
      inr (inl (w, h.z, who.other, first_of from who.at first, relays_willing s states now S h.z w h.relay, h.hop, (to, refl, h.is)))

  pub arc_cases : (x : ℕ) (p : State) → At states x p → (m n : NetAddr) (c : ℕ) → RouteArc p m n c → ArcCase x m n c
  arc_cases x p at _ _ _ (To_neighbour {self = self} {a = a} {m = m} o n is has out) =
      let (y, k) = known s states now S o n at has.0 in
      inl (y, first_of self at is, hop_of s states now S k.there m k.metric (same_some k.is.metric_out out), (a, refl, known_address s states now S k a has.1))
  arc_cases x p at _ _ _ (To_two_hop {o = o} {a = a} {m = m} i link t n has with wills out) =
      let (w, j, q, there, home, to_at, joins, by) = (S.settled x p at).two_hop_from i (record { link = link; addr = a }) t has in
      let k = known_by s states now S link.addr o n w at with (address_in s states now S link.addr to_at (j, by.link.0)) in
      let (u, is, adj) = shown_near s states now S j a to_at by.shown in
      let hop = shown_out s states now S j u a m t.metric_out to_at is by.shown out by.metric_out in
      let will : IsWillingRouter s w = (k.to.settings, S.routers.settings w k.to k.at, λ none. wills (ap (λ (b : Wills). b.routing) k.is.willing ∙ none)) in
      inr (inl (w, u, (λ e. apart s states now S (i, j, there, home, joins) (sym e)), first_of o k.at k.is.originator_is, will, hop, (a, refl, is)))
  arc_cases x p at _ _ _ (By_router {from = from} {to = to} t has) = elim ((S.settled x p at).router_from (record { from = from; to = to }) t has) [
    | inl stray ↦ stray_case x from (host to) (metric_value t.metric) stray
    | inr given ↦ let (w, q, who, by) = given in tc_case x w q from to t.metric who by.from by.metric
  ]
  arc_cases x p at _ _ _ (By_address {from = from} {a = a} t has) = elim ((S.settled x p at).address_from (record { from = from; addr = a }) t has) [
    | inl stray ↦ stray_case x from (host a) (metric_value t.metric) stray
    | inr given ↦ let (w, q, who, by) = given in tc_case x w q from a t.metric who by.from by.metric
  ]
  arc_cases x p at _ _ _ (By_network {from = from} {net = net} t has) = elim ((S.settled x p at).network_from (record { from = from; net = net }) t has) [
    | inl stray ↦ stray_case x from net (metric_value t.metric) stray
    | inr given ↦
        let (g, q, who, by) = given in
        inr (inr (inl (g, who.other, first_of from who.at by.from, attaches_of net t.distance t.metric who.at by.row)))
  ]

  abbrev pub view : (x : ℕ) (p : State) → At states x p → View NetAddr
  view x p at = record {
    x = x;
    Hop = HopCosts s;
    Willing = IsWillingRouter s;
    Joined = Joined s x;
    AddressOf = NodeOf;
    Origin = OriginNode;
    self = host (held s states now S x p at).self;
    Attaches = Attaches s;
    Relay = λ z w. IsRelayOf s states now S z w;
    Arc = RouteArc p;
    is_self = first_of (held s states now S x p at).self at (held s states now S x p at).routes.is_self;
    has_origin = has_origin x p at;
    origin_is = origin_node;
    owner = λ y z node a b.
        (let (c, e, is) = a in
        let (d, f, was) = b in
        let P : Addr4 → Type 0 = λ i. AddressOf s z i in
        owner s states now S y z c is (subst P (same_host d c (sym f ∙ e)) was));
    no_address = λ g k y node att a. (let (b, e, is) = a in S.scenario.networks g y k node b att is e);
    apart = λ v m hop. apart s states now S (near_of s states now S hop) refl;
    attaches_or = attaches s;
    above_zero = λ y z m hop. (let e : metric_value hop.0 ≡ m = hop.2 in let h : 1 ≤ metric_value hop.0 = metric_above_zero hop.0 in omega arith);
    joined_self = Itself;
    joined_on = λ v w m joined hop. By joined (near_of s states now S hop);
    cover = cover s states now S;
    own_arc = own_arc x p at;
    relay_arc = relay_arc x p at;
    net_arc = net_arc x p at;
    arc_cases = arc_cases x p at;
  }
