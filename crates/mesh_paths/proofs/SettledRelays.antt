-- What a settled network says of each router's relays and TCs, in the terms of the radio graph.
use Rattle.mesh_paths.proofs.Common.{common_steps, ◌≡◌, ℕ, ◌+◌, ◌≤◌, ◌⊎◌, inl, inr, refl, sym, ◌∙◌, ap, subst, arith, List, Contains, Some, IsTrue, Addr4, Metric, LinkKey, Neighbour, Scenario, Willing as Wills, GivesAsSelector, Advertises, metric_value, Says, Routing, Adjacent, IsMetric, HopCosts, IsWillingRouter, AddressOf, Offers, IsWilling, IsRelay, At, IsTwoHopBy, State, HasTwoHop, HasSymmetric, IsSettledNetwork, same_some}
use Rattle.mesh_atoms.specs.declared.tuples.TwoHop.{TwoHop}
use Rattle.mesh_atoms.specs.declared.graphs.Near.{Near}
use Rattle.mesh_atoms.specs.declared.graphs.Direct.{Direct}
use Rattle.mesh_atoms.specs.declared.graphs.Far.{Far}
use Rattle.mesh_paths.proofs.SettledNeighbours.{held, owner, same_state, same_settings, address_in, has_address, back, state_there, near_of, apart, same_metric, Known, known, known_address, known_originator, known_by, known_as, neighbouring, has_with, hop_of, shown_in, shows_neighbour}

module _ (s : Scenario) (states : List State) (now : ℕ) (S : IsSettledNetwork s states now) where
  -- Relays

  -- w is a routing relay of z
  pub record IsRelayOf (z w : ℕ) : Type 0 where
    pub q : State
    pub at : At states z q
    pub o : Addr4
    pub n : Neighbour
    pub has : HasSymmetric q o n
    pub k : Known s states now S z q w o n
    pub chosen : Contains q.relays.routing o

  pub relays_willing : (z w : ℕ) → IsRelayOf z w → IsWillingRouter s w
  relays_willing z w r =
      let sound = held s states now S z r.q r.at in
      let (e, stands, id, wills) = sound.covers.willing r.o r.chosen in
      let (n, m, has, _, _, will) = (sound.is_graph.near e).0 stands in
      let P : Addr4 → Type 0 = λ b. AddressOf s w b in
      let k = known_as s states now S e.id n w r.at has (subst P (sym id) (known_originator s states now S r.k)) in
      (k.to.settings, S.routers.settings w k.to k.at, λ none. wills (sym will ∙ ap (λ (b : Wills). b.routing) k.is.willing ∙ none))

  -- the 2-hop tuple of z for router u by way of v
  pub record Beyond (z : ℕ) (q : State) (v u : ℕ) (a : Addr4) : Type 0 where
    pub i : ℕ
    pub link : LinkKey
    pub of_v : AddressOf s v link.addr
    pub t : TwoHop
    pub has : HasTwoHop q i (record { link = link; addr = a }) t
    pub m : Metric
    pub metric_in : t.metric_in ≡ Some m
    pub metric : IsMetric s u v m

  pub beyond : {z : ℕ} {q : State} (v u : ℕ) (a : Addr4) → At states z q → Adjacent s z v → Adjacent s v u → AddressOf s u a → (u ≡ z → ⊥) → Beyond z q v u a
  beyond {z} {q} v u a at adj on is other =
      let (to, to_at) = state_there s states now S adj in
      let (i, j, there, home, joins) = adj in
      let (key, link, stands, symmetric, given) = (S.settled z q at).link_to i v j to there home to_at joins in
      let b = neighbouring s states now S u to_at on in
      let t : TwoHop = record { metric_in = Some b.k.home; metric_out = Some b.k.there } in
      let by : IsTwoHopBy q to j now (record { link = key; addr = a }) t = record {
        link = given.keyed;
        shown = shows_neighbour s states now S j a b is;
        not_mine = λ mine. other (owner s states now S u z a is (address_in s states now S a at mine));
        not_theirs = λ theirs. apart s states now S on (owner s states now S v u a (address_in s states now S a to_at theirs) is);
        metric_in = inl (b.o, b.n, has_with s states now S b a is, b.k.is.metric_in);
        metric_out = inl (b.o, b.n, has_with s states now S b a is, b.k.is.metric_out);
      } in
      record {
        i = i;
        link = key;
        of_v = address_in s states now S key.addr to_at (j, given.keyed.0);
        t = t;
        has = (S.settled z q at).two_hop_to i v j to there home (record { link = key; addr = a }) t to_at joins by;
        m = b.k.home;
        metric_in = refl;
        metric = b.k.metric_back;
      }

  pub willing_at : {v : ℕ} {q : State} → At states v q → IsWillingRouter s v → q.settings.willing.routing ≡ 0 → ⊥
  willing_at {v} {q} at wills none = grind (arith, common_steps, same_settings)

  -- what a direct entry offers is one hop
  pub by_direct : (u z : ℕ) (q : State) (at : At states z q) (a : Addr4) (e most : ℕ) →
      ((d : Direct) × Contains (held s states now S z q at).graph.direct d × (d.addr ≡ a) × (d.cost ≡ e)) →
      AddressOf s u a → e ≤ most → (k : ℕ) × HopCosts s u z k × (k ≤ most)
  by_direct u z q at a e most offered is under =
      let (d, stands, of_a, cost) = offered in
      let (o, n, m, has, metric_in, value) = ((held s states now S z q at).is_graph.direct d).0 stands in
      let P : Addr4 → Type 0 = λ b. AddressOf s u b in
      let k = known_by s states now S d.addr o n u at has (subst P (sym of_a) is) in
      (metric_value m, hop_of s states now S k.home m k.metric_back (same_some k.is.metric_in metric_in), omega arith)

  -- what a relay offers is a hop to it, and its hop
  pub by_way : (u z : ℕ) (q : State) (at : At states z q) (a : Addr4) (e most : ℕ) →
      ((near : Near) × Contains (held s states now S z q at).graph.near near × IsRelay q.relays.routing near × (f : Far) × Contains (held s states now S z q at).graph.far f
      × (f.via ≡ near.id) × (f.addr ≡ a) × (near.cost + f.cost ≡ e)) →
      AddressOf s u a → e ≤ most → (w k l : ℕ) × HopCosts s u w k × HopCosts s w z l × IsRelayOf z w × (k + l ≤ most)
  by_way u z q at a e most offered is under =
      let (near, near_stands, chosen, f, far_stands, via, of_a, cost) = offered in
      let (n, m, has, metric_in, value, will) = ((held s states now S z q at).is_graph.near near).0 near_stands in
      let (i, key, t, n', k', m', two_hop, has', _, at_a, shown_m, value') = ((held s states now S z q at).is_graph.far f).0 far_stands in
      let (w, j, to, there, home, to_at, joins, by) = (S.settled z q at).two_hop_from i key t two_hop in
      let link_of_w : AddressOf s w key.link.addr = address_in s states now S key.link.addr to_at (j, by.link.0) in
      let far_known = known_by s states now S key.link.addr f.via n' w at has' link_of_w in
      let P : Addr4 → Type 0 = λ b. AddressOf s w b in
      let k = known_as s states now S near.id n w at has (subst P via (known_originator s states now S far_known)) in
      let Q : Addr4 → Type 0 = λ b. AddressOf s u b in
      let here : AddressOf s u key.addr = subst Q (sym (at_a ∙ of_a)) is in
      let first : HopCosts s u w (metric_value m') = shown_in s states now S j u key.addr m' t.metric_in to_at here by.shown shown_m by.metric_in in
      let second : HopCosts s w z (metric_value m) = hop_of s states now S k.home m k.metric_back (same_some k.is.metric_in metric_in) in
      let relay : IsRelayOf z w = record { q = q; at = at; o = near.id; n = n; has = has; k = k; chosen = chosen } in
      (w, metric_value m', metric_value m, first, second, relay, omega arith)

  pub cover : (u v z m n : ℕ) → HopCosts s u v m → IsWillingRouter s v → HopCosts s v z n → (u ≡ z → ⊥) →
      ((k : ℕ) × HopCosts s u z k × (k ≤ m + n)) ⊎ ((w k l : ℕ) × HopCosts s u w k × HopCosts s w z l × IsRelayOf z w × (k + l ≤ m + n))
  cover u v z m n first wills second other =
      let adj : Adjacent s z v = back s states now S (near_of s states now S second) in
      let on : Adjacent s v u = back s states now S (near_of s states now S first) in
      let (q, at) = state_there s states now S (near_of s states now S second) in
      let b = neighbouring s states now S v at adj in
      let c = neighbouring s states now S u b.k.at on in
      let a : Addr4 = c.o in
      let is : AddressOf s u a = known_originator s states now S c.k in
      let far = beyond v u a at adj on is other in
      let sound = held s states now S z q at in
      let near : Near = record { id = b.o; cost = metric_value b.k.home; will = b.n.willing.routing } in
      let near_stands : Contains sound.graph.near near = (sound.is_graph.near near).1 (b.n, b.k.home, b.has, b.k.is.metric_in, refl, refl) in
      let near_wills : IsWilling near = λ none. willing_at b.k.at wills (ap (λ (x : Wills). x.routing) (sym b.k.is.willing) ∙ none) in
      let f : Far = record { via = b.o; addr = a; cost = metric_value far.m } in
      let far_stands : Contains sound.graph.far f = (sound.is_graph.far f).1
      (far.i, record { link = far.link; addr = a }, far.t, b.n, b.k.home, far.m, far.has, has_with s states now S b far.link.addr far.of_v, b.k.is.metric_in, refl, far.metric_in, refl) in
      let offer : Offers sound.graph IsWilling a (metric_value b.k.home + metric_value far.m) =
      inr (near, near_stands, near_wills, f, far_stands, refl, refl, refl) in
      let (e, offered, low) = sound.covers.as_cheap f (metric_value b.k.home + metric_value far.m) far_stands offer in
      let em : metric_value b.k.home ≡ n = same_metric s states now S b.k.metric_back second.1 ∙ second.2 in
      let en : metric_value far.m ≡ m = same_metric s states now S far.metric first.1 ∙ first.2 in
      let under : e ≤ m + n = omega arith in
      elim offered [
        | inl direct ↦ inl (by_direct u z q at a e (m + n) direct is under)
        | inr relayed ↦ inr (by_way u z q at a e (m + n) relayed is under)
      ]

  -- What a TC gives

  -- a neighbour that gives an address is a router with that address
  pub record Giver (w : ℕ) (q : State) (a : Addr4) (m : Metric) (o : Addr4) (n : Neighbour) : Type 0 where
    pub z : ℕ
    pub k : Known s states now S w q z o n
    pub is : AddressOf s z a
    pub same : k.there ≡ m

  pub giver : {w : ℕ} {q : State} (a o : Addr4) (m : Metric) → At states w q → (g : GivesAsSelector q a o m) → Giver w q a m o g.neighbour
  giver {w} a o m at g =
      let (z, k) = known s states now S o g.neighbour at g.symmetric in
      let is : AddressOf s z a = elim g.address [
        | inl has ↦ known_address s states now S k a has
        | inr e ↦ (let P : Addr4 → Type 0 = λ b. AddressOf s z b in subst P (sym e) (known_originator s states now S k))
      ] in
      record { z = z; k = k; is = is; same = same_some k.is.metric_out g.metric }

  -- a router with a selector is its routing relay
  pub selected : {w z : ℕ} {q : State} (o : Addr4) (n : Neighbour) → At states w q → (k : Known s states now S w q z o n) → IsTrue n.selector → IsRelayOf z w
  selected {w} {z} {q} o n at k flag =
      let (a, has, shows) = (k.is.selector 0).0 flag in
      let (p, m, with, chosen) = shows in
      record { q = k.to; at = k.at; o = p; n = m; has = with.0; k = known_by s states now S a p m w k.at with (address_in s states now S a at has); chosen = chosen }

  -- and the other way round, at the neighbour's tuple
  pub selects : {w z : ℕ} {q : State} (o : Addr4) (n : Neighbour) → At states w q → (k : Known s states now S w q z o n) → IsRelayOf z w → IsTrue n.selector
  selects {w} {z} {q} o n at k r =
      let same : r.q ≡ k.to = same_state s states now S r.at k.at in
      let P : State → Type 0 = λ b. Says b 0 now r.o Routing in
      let mine : AddressOf s w r.o = known_originator s states now S r.k in
      let shows : Says r.q 0 now r.o Routing = (r.o, r.n, (r.has, (r.k.is.addresses r.o).1 (has_address s states now S r.o r.k.at mine)), r.chosen) in
      (k.is.selector 0).1 (r.o, has_address s states now S r.o at mine, subst P same shows)

  -- a selector's addresses are advertised at the metric to it
  pub record Given (w z : ℕ) (q : State) (a : Addr4) (c : ℕ) : Type 0 where
    pub m : Metric
    pub row : Advertises q a m
    pub value : metric_value m ≡ c

  pub gives : {w z : ℕ} {q : State} (a : Addr4) (c : ℕ) → At states w q → IsRelayOf z w → HopCosts s w z c → AddressOf s z a → Given w z q a c
  gives {w} {z} {q} a c at r hop is =
      let b = neighbouring s states now S z at (near_of s states now S hop) in
      let given : GivesAsSelector q a b.o b.k.there = record {
        neighbour = b.n;
        symmetric = b.has;
        selects = selects b.o b.n at b.k r;
        metric = b.k.is.metric_out;
        address = inl ((has_with s states now S b a is).1);
      } in
      record {
        m = b.k.there;
        row = record {
          giver = b.o;
          given = given;
          least = λ o m g.
              (let h = giver a o m at g in
              let P : ℕ → Type 0 = λ y. IsMetric s w y m in
              let Q : Metric → Type 0 = λ i. IsMetric s w h.z i in
              let e : metric_value b.k.there ≡ metric_value m = same_metric s states now S b.k.metric (subst P (owner s states now S h.z z a h.is is) (subst Q h.same h.k.metric)) in
              omega arith);
        };
        value = same_metric s states now S b.k.metric hop.1 ∙ hop.2;
      }

  -- what an advertised address is
  pub record Taken (w : ℕ) (a : Addr4) (m : Metric) : Type 0 where
    pub z : ℕ
    pub is : AddressOf s z a
    pub hop : HopCosts s w z (metric_value m)
    pub relay : IsRelayOf z w

  pub takes : {w : ℕ} {q : State} (a : Addr4) (m : Metric) → At states w q → Advertises q a m → Taken w a m
  takes {w} {q} a m at row =
      let h = giver a row.giver m at row.given in
      record { z = h.z; is = h.is; hop = hop_of s states now S h.k.there m h.k.metric h.same; relay = selected row.giver row.given.neighbour at h.k row.given.selects }
