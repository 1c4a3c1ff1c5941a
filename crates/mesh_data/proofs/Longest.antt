-- Of the networks that have an address, a trip's first router names the longest.
use Rattle.mesh_data.proofs.Common.{◌≡◌, ℕ, zero, suc, ◌+◌, ◌<◌, ◌≤◌, inl, inr, refl, sym, ap, subst, arith, List, [], ◌∷◌, length, Contains, cases_lt, Addr4, NetAddr, Metric, Route, RouterSettings, Scenario, metric_value, Joins, Adjacent, HopCosts as RadioHop, Joined, Itself, By, Router, IsWillingRouter, AddressOf, Attaches, IsSoundScenario, RadioLeast, To_network, At, State, WillingWalk, Here, Further, IsSettledNetwork, RowsAreLeast, Holds, End, Hop, Trip, IsNetworkOf, HasNetwork, TakesRoute, Delivers, HasNoWay, IsHop, AreChained, EndsWith, At_address, At_network, Without_route, After_all, Without_arc, IsTrip}
use Rattle.mesh_data.proofs.Costs.{host_held, either, walk_joined}

-- That something least exists cannot be denied

none_below : (P : ℕ → Type 0) → ((m : ℕ) → P m → ((e : ℕ) → P e → m ≤ e) → ⊥) → (n m : ℕ) → m < n → P m → ⊥
none_below P none zero m l has = omega arith
none_below P none (suc n) m l has = none m has (λ e other. elim (cases_lt e m) [
  | inl less ↦ absurd (none_below P none n e (omega arith) other)
  | inr more ↦ more
])

some_least : (P : ℕ → Type 0) (n : ℕ) → P n → ((m : ℕ) → P m → ((e : ℕ) → P e → m ≤ e) → ⊥) → ⊥
some_least P n has none = none_below P none (n + 1) n (omega arith) has

module _ (s : Scenario) (scenario : IsSoundScenario s) (willing : (x : ℕ) (r : RouterSettings) → Router s x r → IsWillingRouter s x) (from : ℕ) where
  -- A least cost from `from` to the network exists, unless it attaches it

  hop_exists : (v w : ℕ) → Adjacent s v w → ((c : ℕ) → RadioHop s v w c → ⊥) → ⊥
  hop_exists v w (i, j, there, back, joins) none =
      let P : ℕ → Type 0 = λ c. (i j : ℕ) × (m b : Metric) × Joins s v i w j m b × (metric_value m ≡ c) in
      some_least P (metric_value there) (i, j, there, back, joins, refl) (λ c (k, l, m, b, is, value) least.
      none c (m, record { some = (k, l, b, is); least = λ x y n d other. omega (arith, value, least (metric_value n) (x, y, n, d, other, refl)) }, value))

  walk_exists : (x : ℕ) → Joined s from x → ((c : ℕ) → WillingWalk (RadioHop s) (IsWillingRouter s) from x c → ⊥) → ⊥
  walk_exists x Itself none = none 0 Here
  walk_exists x (By {v = v} j adjacent) none =
      let (i, k, there, back, joins) = adjacent in
      let (_, (r, router), _) = scenario.ends v i x k there joins.out in
      walk_exists v j (λ c walk. hop_exists v x adjacent (λ m hop. none (c + m) (Further walk (willing v r router) hop)))

  pub least_exists : (gateway metric : ℕ) (net : NetAddr) → Joined s from gateway → Attaches s gateway net metric → ((k : ℕ) → Attaches s from net k → ⊥) → ((c : ℕ) → RadioLeast s from net c → ⊥) → ⊥
  least_exists gateway metric net joined attaches off none =
      let P : ℕ → Type 0 = λ e. (g d k : ℕ) × Attaches s g net k × WillingWalk (RadioHop s) (IsWillingRouter s) from g d × (d + k ≡ e) in
      walk_exists gateway joined (λ d walk. some_least P (d + metric) (gateway, d, metric, attaches, walk, refl) (λ e (g, way, k, att, w, sum) least.
      none e (To_network off (record {
        gateway = g;
        way = way;
        metric = k;
        attached = att;
        to_gateway = record { reached = w; least = λ i v. omega (arith, sum, least (i + k) (g, i, k, att, v, refl)) };
        sum = sum;
        least = λ h i l other v. least (i + l) (h, i, l, other, v, refl);
      }))))

module _ (R : RowsAreLeast) (s : Scenario) (states : List State) (now : ℕ) (S : IsSettledNetwork s states now) (from : ℕ) (a : Addr4) (H : HasNetwork s from a) where
  -- no network of a joined router is longer than what `from` has
  above : (p : State) → At states from p → (bound : ℕ) → ((net : NetAddr) (c : ℕ) → Attaches s from net c → Holds net a → net.prefix ≤ bound) →
      ((row : Route) → Contains p.routes row → Holds row.dest a → row.dest.prefix ≤ bound) → (x c : ℕ) (other : NetAddr) → Joined s from x → Attaches s x other c → Holds other a → other.prefix ≤ bound
  above p at bound own rows x c other joined attaches holds = elim (cases_lt bound other.prefix) [
    | inl less ↦ absurd (least_exists s S.scenario H.willing from x c other joined attaches (λ k att. omega (arith, own other k att holds)) (λ d least.
        (let (row, stands, dest, metric) = (R s states now from p S at other d).1 least in
        let is : row.dest.prefix ≡ other.prefix = ap (λ (n : NetAddr). n.prefix) dest in
        omega (arith, rows row stands (subst (λ (n : NetAddr). Holds n a) (sym dest) holds)))))
    | inr more ↦ more
  ]

  by_own : (k : ℕ) → Delivers s states a from k → (net : NetAddr) × IsNetworkOf s from a net
  by_own k d = (
    d.net,
    record {
      willing = H.willing;
      no_router = H.no_router;
      gateway = from;
      joined = Itself;
      metric = k;
      attaches = d.attaches;
      holds = d.holds;
      longest = above d.state d.at d.net.prefix d.longest (λ row stands holds. omega (arith, d.beyond row stands holds));
    },
  )

  by_row : (row : Route) → TakesRoute s states a from row → (net : NetAddr) × IsNetworkOf s from a net
  by_row row d = elim (either s from row.dest row.metric ((R s states now from d.state S d.at row.dest row.metric).0 (row, d.longest.stands, refl, refl))) [
    | inl r ↦
        let e : a ≡ r.a = host_held a r.a (subst (λ (n : NetAddr). Holds n a) r.is d.longest.holds) in
        absurd (H.no_router r.y (subst (λ (b : Addr4). AddressOf s r.y b) (sym e) r.owned))
    | inr r ↦ (
      row.dest,
      record {
        willing = H.willing;
        no_router = H.no_router;
        gateway = r.least.gateway;
        joined = walk_joined s from from r.least.gateway r.least.way Itself r.least.to_gateway.reached;
        metric = r.least.metric;
        attaches = r.least.attached;
        holds = d.longest.holds;
        longest = above d.state d.at row.dest.prefix d.within d.longest.longest;
      },
    )
  ]

  not_lost : HasNoWay s states a from → ⊥
  not_lost d = least_exists s S.scenario H.willing from H.gateway H.metric H.net H.joined H.attaches (λ k att. d.no_network H.net k att H.holds) (λ c least.
      (let (mine, stands, dest, metric) = (R s states now from d.state S d.at H.net c).1 least in
      d.no_route mine stands (subst (λ (n : NetAddr). Holds n a) (sym dest) H.holds)))

  at_end : (made : ℕ) (end : End) (added : ℕ) → EndsWith s states a from made end added → (net : NetAddr) × IsNetworkOf s from a net
  at_end made _ _ (At_address here) = absurd (H.no_router from here)
  at_end made _ _ (At_network {k} off d) = by_own k d
  at_end made _ _ (Without_route off d) = absurd (not_lost d)
  at_end made _ _ (After_all off row d made_all) = by_row row d
  at_end made _ _ (Without_arc off row d less none) = by_row row d

  first : (hops : List Hop) (last made : ℕ) (end : End) (added : ℕ) → AreChained from hops last → ((hop : Hop) → Contains hops hop → IsHop s states a hop) → EndsWith s states a last made end added →
      (net : NetAddr) × IsNetworkOf s from a net
  first [] last made end added e each ends = at_end made end added (subst (λ (x : ℕ). EndsWith s states a x made end added) (sym e) ends)
  first (h ∷ hs) last made end added e each ends =
      let is = each h (0, omega arith, refl) in
      by_row is.row (subst (λ (x : ℕ). TakesRoute s states a x is.row) e.0 is.routes)

  pub longest : (t : Trip) → IsTrip s states from a t → (net : NetAddr) × IsNetworkOf s from a net
  longest t is = first t.hops t.last (length t.hops) t.end is.added is.chain is.each is.ends
