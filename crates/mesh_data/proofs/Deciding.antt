-- What one router does.
use Rattle.mesh_data.proofs.Common.{common_steps, ◌≡◌, ◌↔◌, ℕ, ◌+◌, ◌<◌, ◌≤◌, ◌⊎◌, inl, inr, refl, sym, ◌∙◌, ap, subst, arith, Bool, true, false, IsTrue, List, length, Contains, Option, Some, None, Bor, slice_index_or, slice_get, IfSome, IfNone, map, nat_lt, option_map, cond, AllWithin, AllWithin-more, at_read, slice_get_within, slice_get-map, slice_get_read, Addr4, RouterSettings, HasAddress, State, of_each, NetAddr, Attached4, Holds, IsLongest, HasNoRouteTo, ltb-true, ltb-false, Metric, Route, RadioArc, Scenario, metric_value, Router, AddressOf, Attaches, At, AreStates, Arrived, NoArc, End, Delivers, TakesRoute, LeadsToNext, EndsWith, At_network, Without_arc, IsLongestOf, IsLongerOf, longer_of, IsDecisionBy, IsDecision, IsAddressAt, IsArcOf, IsMoveBy, IsMove}
use Rattle.std.specs.Option.{option_copied}
use Rattle.mesh_data.specs.declared.decisions.Decision.{Decision}
use Rattle.mesh_data.specs.declared.decisions.Decision.TheVariants.{Here, Network, Nowhere, Via}
use Rattle.mesh_data.specs.declared.decisions.Move.{Move}
use Rattle.mesh_data.specs.declared.decisions.Move.TheVariants.{Stops, Hops}

-- a test of what stands at a place
pub at_place : {A : Type 0} (P : A → Type 0) (o : Option (Bor A)) (got : Option A) (x : Bor A) (b : Bool) → option_copied o ≡ got → o ≡ Some x → IsTrue b ↔ P x.now →
    IsTrue b ↔ ((y : A) × (got ≡ Some y) × P y)
at_place {A} P o got x b copied is h =
    let here : got ≡ Some x.now = sym copied ∙ ap option_copied is in
    (λ t. (x.now, here, h.0 t), λ (y, there, has). (let e : y ≡ x.now = (let f : Some y ≡ Some x.now = sym there ∙ here in cc) in h.1 (subst P e has)))

-- two tests in turn
pub and_then : {P Q R : Type 0} (a b : Bool) → IsTrue a ↔ (P × Q) → a ≡ true → IsTrue b ↔ R → IsTrue b ↔ (P × Q × R)
and_then a b h e g = (λ t. let (p, q) = h.0 e in (p, q, g.0 t), λ (p, q, r). g.1 r)

-- The longest network

upto : (P Q : Attached4 → Type 0) (xs : List Attached4) (n : ℕ) → ((u : Attached4) → P u → Q u) → AllWithin P xs 0 n → AllWithin Q xs 0 n
upto P Q xs n f h k d l u = f (slice_index_or xs k d) (h k d l u)

abbrev NoLonger : Addr4 → Attached4 → Attached4 → Type 0
NoLonger a x u = Holds u.net a → u.net.prefix ≤ x.net.prefix

pub longest_more : (xs : List Attached4) (n : ℕ) (a : Addr4) (best result : Option Attached4) (x : Attached4) → n < length xs → x ≡ slice_index_or xs n x →
    IsLongerOf a best x result → IsLongestOf xs n a best → IsLongestOf xs (n + 1) a result
longest_more xs n a best result x l at (inl (holds, longer, is)) before = grind (arith, common_steps, AllWithin-more, at_read, upto)
longest_more xs n a best result x l at (inr (off, is)) before =
    subst (λ (r : Option Attached4). IsLongestOf xs (n + 1) a r) (sym is) (stays best off before)
  where
    stays : (b : Option Attached4) → (Holds x.net a → ⊥) ⊎ ((t : Attached4) × (b ≡ Some t) × (x.net.prefix ≤ t.net.prefix)) → IsLongestOf xs n a b → IsLongestOf xs (n + 1) a b
    stays None (inl never) none = AllWithin-more (λ u. Holds u.net a → ⊥) xs 0 n none (at_read xs (λ u. Holds u.net a → ⊥) n x l at never)
    stays None (inr (t, e, low)) none = absurd cc
    stays (Some t) (inl never) (has, holds, most) = (
      has,
      holds,
      AllWithin-more (λ u. Holds u.net a → u.net.prefix ≤ t.net.prefix) xs 0 n most
          (at_read xs (λ u. Holds u.net a → u.net.prefix ≤ t.net.prefix) n x l at (λ h. absurd (never h))),
    )
    stays (Some t) (inr (b, e, low)) (has, holds, most) =
        let same : t ≡ b = cc in
        let up : x.net.prefix ≤ t.net.prefix = subst (λ (y : Attached4). x.net.prefix ≤ y.net.prefix) (sym same) low in (
          has,
          holds,
          AllWithin-more (λ u. Holds u.net a → u.net.prefix ≤ t.net.prefix) xs 0 n most
              (at_read xs (λ u. Holds u.net a → u.net.prefix ≤ t.net.prefix) n x l at (λ h. up)),
        )

pub longest_at_end : (xs : List Attached4) (n : ℕ) (a : Addr4) (best : Option Attached4) → length xs ≤ n → IsLongestOf xs n a best → IsLongestOf xs (length xs) a best
longest_at_end xs n a best end none = grind (arith, common_steps)

-- The decision

each_of : (P : Attached4 → Type 0) (xs : List Attached4) → AllWithin P xs 0 (length xs) → (u : Attached4) → Contains xs u → P u
each_of P xs h u has = of_each P xs (length xs) (omega arith) h u has

module _ (routes : List Route) (own : List Attached4) (a : Addr4) where
  by_longest : (o : Option (Bor Route)) (best : Option Attached4) → IfSome o (λ r. IsLongest routes a r.now) → IfNone o (HasNoRouteTo routes a) → IsLongestOf own (length own) a best →
      IsDecisionBy routes own a (longer_of (option_copied o) best)
  by_longest None None some none best = (none, each_of (λ u. Holds u.net a → ⊥) own best)
  by_longest None (Some t) some none (has, holds, most) = (t, has, holds, each_of (NoLonger a t) own most, λ r stands h. absurd (none r stands h), refl)
  by_longest (Some r) None some none best = (some, λ u has h. absurd (each_of (λ u. Holds u.net a → ⊥) own best u has h))
  by_longest (Some r) (Some t) some none (has, holds, most) = by_prefix (nat_lt r.now.dest.prefix t.net.prefix) refl
    where
      by_prefix : (b : Bool) → nat_lt r.now.dest.prefix t.net.prefix ≡ b → IsDecisionBy routes own a (cond b (Network t.metric) (Via r.now))
      by_prefix true e =
          let less : r.now.dest.prefix < t.net.prefix = ltb-true r.now.dest.prefix t.net.prefix e in
          (t, has, holds, each_of (NoLonger a t) own most, λ s stands h. omega (arith, some.longest s stands h), refl)
      by_prefix false e =
          let more : t.net.prefix ≤ r.now.dest.prefix = ltb-false r.now.dest.prefix t.net.prefix e in
          (some, λ u has h. omega (arith, each_of (NoLonger a t) own most u has h))

  pub decided : (o : Option (Bor Route)) (copied : Option Route) (best : Option Attached4) (t : Decision) → copied ≡ option_copied o → t ≡ longer_of copied best →
      IfSome o (λ r. IsLongest routes a r.now) → IfNone o (HasNoRouteTo routes a) → IsLongestOf own (length own) a best → IsDecisionBy routes own a t
  decided o copied best t is e some none h = grind (arith, common_steps, by_longest)

pub router_at : (xs ys : List RouterSettings) (x : ℕ) (r : RouterSettings) → xs ≡ ys → x < length ys → r ≡ slice_index_or xs x r → slice_get ys x ≡ Some r
router_at xs ys x r e l is = slice_get_read ys (length ys) x r refl l (subst (λ (zs : List RouterSettings). r ≡ slice_index_or zs x r) e is)

pub state_within : {R : Type 0} (f : R → State) (s : Scenario) (xs : List R) (x : ℕ) (r : RouterSettings) → AreStates s (map f xs) → Router s x r → x < length xs
state_within f s xs x r states router = grind (arith, common_steps, slice_get_within)

pub state_at : {R : Type 0} (f : R → State) (xs : List R) (x : ℕ) (item : R) → x < length xs → item ≡ slice_index_or xs x item → At (map f xs) x (f item)
state_at f xs x item l is = record { is = slice_get-map f xs x ∙ ap (option_map f) (slice_get_read xs (length xs) x item refl l is) }

module _ (s : Scenario) (states : List State) (a : Addr4) (x : ℕ) where
  module _ (r : RouterSettings) (router : Router s x r) where
    same_router : (q : RouterSettings) → Router s x q → q ≡ r
    same_router q at = (let e : Some q ≡ Some r = sym at ∙ router in cc)

    pub own_of : (net : NetAddr) (c : ℕ) → Attaches s x net c → (t : Attached4) × Contains r.attached t × (t.net ≡ net)
    own_of net c (q, at, t, has, e, _) = (t, subst (λ (o : RouterSettings). Contains o.attached t) (same_router q at) has, e)

    pub not_of : (b : Bool) → IsTrue b ↔ HasAddress r a → b ≡ false → AddressOf s x a → ⊥
    not_of b h e (q, at, has) = (let t : b ≡ true = h.1 (subst (λ (o : RouterSettings). HasAddress o a) (same_router q at) has) in cc)

    -- what holds of each own network that has the address
    own_each : (p : ℕ) → ((u : Attached4) → Contains r.attached u → Holds u.net a → u.net.prefix ≤ p) → (net : NetAddr) (c : ℕ) → Attaches s x net c → Holds net a → net.prefix ≤ p
    own_each p each net c att holds =
        let (t, has, e) = own_of net c att in
        subst (λ (n : NetAddr). n.prefix ≤ p) e (each t has (subst (λ (n : NetAddr). Holds n a) (sym e) holds))

    pub decision_at : (p : State) (t : Decision) → At states x p → (AddressOf s x a → ⊥) → IsDecisionBy p.routes r.attached a t → IsDecision s states a x t
    decision_at p Here at off h = absurd h
    decision_at p (Network m) at off (t, has, holds, most, beyond, metric) = (
      off,
      record {
        net = t.net;
        attaches = (r, router, t, has, refl, ap metric_value metric);
        holds = holds;
        longest = own_each t.net.prefix most;
        state = p;
        at = at;
        beyond = beyond;
      },
    )
    decision_at p Nowhere at off (none, nothing) = (
      off,
      record {
        state = p;
        at = at;
        no_route = none;
        no_network = λ net c att holds. (let (t, has, e) = own_of net c att in nothing t has (subst (λ (n : NetAddr). Holds n a) (sym e) holds));
      },
    )
    decision_at p (Via row) at off (longest, within) = (off, record { state = p; at = at; longest = longest; within = own_each row.dest.prefix within })

  -- The move

  pub hop_by : (row : Route) (arcs : List RadioArc) (arc : RadioArc) → arcs ≡ s.arcs → Contains arcs arc → IsArcOf s x row arc → LeadsToNext s x row arc.to arc.metric
  hop_by row arcs arc e has (from, iface, (q, router, on)) =
      record { j = arc.to_iface; settings = q; router = router; on = on; arc = (arc, subst (λ (l : List RadioArc). Contains l arc) e has, from, iface, refl, refl, refl) }

  pub no_arc : (row : Route) (arcs : List RadioArc) → arcs ≡ s.arcs → ((arc : RadioArc) → Contains arcs arc → IsArcOf s x row arc → ⊥) → (y : ℕ) (m : Metric) → LeadsToNext s x row y m → ⊥
  no_arc row arcs e none y m reaches =
      let (arc, has, from, iface, to, to_iface, metric) = reaches.arc in
      let at : IsAddressAt s arc.to arc.to_iface row.next = subst (λ (i : ℕ). IsAddressAt s arc.to i row.next) (sym to_iface) (subst (λ (b : ℕ). IsAddressAt s b reaches.j row.next) (sym to) (reaches.settings, reaches.router, reaches.on)) in
      none arc (subst (λ (l : List RadioArc). Contains l arc) (sym e) has) (from, iface, at)

  pub at_network : (n v : ℕ) (m : Metric) → IsDecision s states a x (Network m) → v ≡ metric_value m → EndsWith s states a x n Arrived v
  at_network n v m (off, d) e = At_network off (subst (λ (k : ℕ). Delivers s states a x k) (sym e) d)

  pub moved : (row : Route) (m : Move) → IsDecision s states a x (Via row) → IsMoveBy s x row m → IsMove s states a x m
  moved row (Stops end k) (off, routes) (is, nothing, none) =
      λ n less. subst (λ (e : End). EndsWith s states a x n e k) (sym is) (subst (λ (c : ℕ). EndsWith s states a x n NoArc c) (sym nothing) (Without_arc off row routes less none))
  moved row (Hops hop) (off, routes) (from, iface, small, (m, reaches, metric)) = (
    record {
      not_here = subst (λ (y : ℕ). AddressOf s y a → ⊥) (sym from) off;
      row = row;
      routes = subst (λ (y : ℕ). TakesRoute s states a y row) (sym from) routes;
      by = iface;
      arc = m;
      reaches = subst (λ (y : ℕ). LeadsToNext s y row hop.to m) (sym from) reaches;
      metric = metric;
    },
    from,
    small,
  )
