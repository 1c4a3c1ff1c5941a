-- In a settled network the flooding relays cover: who hears a router has a relay of it beside each of its own neighbours.
use Rattle.mesh_probe.proofs.Common.{◌≡◌, ℕ, zero, suc, ◌+◌, ◌≤◌, ◌<◌, ◌⊎◌, inl, inr, refl, sym, ◌∙◌, ap, subst, arith, List, [], ◌∷◌, Contains, Some, None, Option, slice_get, length, Bool, true, common_steps, slice_get_cases, slice_get_within, Addr4, Metric, LinkKey, Link, RouterSettings, Scenario, Base, HasDistinctKeys, base_of, link_eq, metric_value, Says, Flooding, Joins, Adjacent, Router, AddressOf, At, IsTwoHopBy, IsLinkTo, State, state_of, is_symmetric, HasLink, HasTwoHop, HasSymmetric, HasSymmetricWith, HasAddressOn, tests_symmetric, looks_up_links, SelectorOf, Linked, Unlinked, IsSymmetricWith, IsSettledNetwork, owner, same_state, same_settings, address_in, has_address, state_there, apart, known_address, known_originator, known_by, Known, neighbouring, has_with, shown_near, shows_neighbour, hearers_of, IsInterfaceSender, AllWillFlood, cases_Bool, contains_at, contains_tail as in_tail, contains_cases, same_address, true_false}
use Rattle.mesh_atoms.specs.declared.hello.Willing.{Willing as Wills}
use Rattle.mesh_atoms.specs.declared.tuples.TwoHop.{TwoHop}
use Rattle.mesh_atoms.specs.declared.tuples.Neighbour.{Neighbour}
use Rattle.mesh_atoms.specs.declared.graphs.Near.{Near}
use Rattle.mesh_atoms.specs.declared.graphs.Direct.{Direct}
use Rattle.mesh_atoms.specs.declared.graphs.Far.{Far}
use Rattle.mesh_atoms.specs.declared.graphs.NeighbourGraph.{NeighbourGraph}
use Rattle.mesh_atoms.specs.RelayGraphs.{IsFloodingGraph, IsMetricOver, AreRelays}
use Rattle.mesh_atoms.specs.Relays.{Offers, IsWilling}
use Rattle.mesh_atoms.specs.declared.tuples.LinkState.TheVariants.{Symmetric as Is_symmetric}
use Rattle.mesh_paths.proofs.Admitted.{joins_back}
use Rattle.mesh_paths.proofs.SettledDecisions.{any_or_none}
use Rattle.mesh_probe.proofs.Wave.{IsCovering, IsSelected}
use Rattle.mesh_probe.proofs.Seen.{faces_in, HoldsFlag, AreJoined, net_of}
use Rattle.mesh_probe.proofs.Hearers.{hearer, hearer_of}

-- The least of what has a property

least_in : {A : Type 0} (P : A → Type 0) (cost : A → ℕ) → ((t : A) → P t ⊎ (P t → ⊥)) → (xs : List A) →
    ((t : A) × Contains xs t × P t × ((u : A) → Contains xs u → P u → cost t ≤ cost u)) ⊎ ((t : A) → Contains xs t → P t → ⊥)
least_in P cost test [] = inr (λ t c p. absurd (omega (arith, c.1)))
least_in {A} P cost test (x ∷ xs) = elim (test x) [
  | inl p ↦ elim (least_in P cost test xs) [
    | inl found ↦ let (t, stands, has, least) = found in elim (less (cost x) (cost t)) [
      | inl le ↦ inl (
        x,
        (0, omega arith, refl),
        p,
        λ u c q. elim (contains_cases x xs u c) [
          | inl e ↦ (let f : cost x ≡ cost u = ap cost e in omega (arith, f))
          | inr later ↦ (let g = least u later q in omega (arith, g, le))
        ],
      )
      | inr gt ↦ inl (
        t,
        in_tail x xs t stands,
        has,
        λ u c q. elim (contains_cases x xs u c) [
          | inl e ↦ (let f : cost x ≡ cost u = ap cost e in omega (arith, f, gt))
          | inr later ↦ least u later q
        ],
      )
    ]
    | inr none ↦ inl (
      x,
      (0, omega arith, refl),
      p,
      λ u c q. elim (contains_cases x xs u c) [
        | inl e ↦ (let f : cost x ≡ cost u = ap cost e in omega (arith, f))
        | inr later ↦ absurd (none u later q)
      ],
    )
  ]
  | inr not_x ↦ elim (least_in P cost test xs) [
    | inl found ↦ let (t, stands, has, least) = found in inl (
      t,
      in_tail x xs t stands,
      has,
      λ u c q. elim (contains_cases x xs u c) [
        | inl e ↦ absurd (not_x (subst P (sym e) q))
        | inr later ↦ least u later q
      ],
    )
    | inr none ↦ inr (λ t c q. elim (contains_cases x xs t c) [
      | inl e ↦ not_x (subst P (sym e) q)
      | inr later ↦ none t later q
    ])
  ]
]
  where
    less : (a b : ℕ) → (a ≤ b) ⊎ (b ≤ a)
    less zero b = inl (omega arith)
    less (suc a) zero = inr (omega arith)
    less (suc a) (suc b) = elim (less a b) [ inl l ↦ inl (omega arith) | inr l ↦ inr (omega arith) ]

linked_of : {links : Base LinkKey Link} {now : ℕ} {a : Addr4} (o : Option Bool) → SelectorOf links now a o → (flag : Bool) → o ≡ Some flag →
    (link : Link) × IsSymmetricWith links now a link × (link.selector ≡ flag)
linked_of _ (Linked link is) flag e = (link, is, (cc))
linked_of _ (Unlinked none) flag e = absurd (let f : None ≡ Some flag = e in cc)

unlinked_of : {links : Base LinkKey Link} {now : ℕ} {a : Addr4} (o : Option Bool) → SelectorOf links now a o → o ≡ None → (link : Link) → IsSymmetricWith links now a link → ⊥
unlinked_of _ (Linked link is) e = λ l h. (let f : Some link.selector ≡ None = e in absurd (cc))
unlinked_of _ (Unlinked none) e = none

module _ (s : Scenario) (states : List State) (now : ℕ) (S : IsSettledNetwork s states now) (willing : AllWillFlood s) where
  joined_back : {x i w j : ℕ} → AreJoined s x i w j → AreJoined s w j x i
  joined_back (there, home, joins) = (home, there, joins_back joins)

  near_by : {x i w j : ℕ} → AreJoined s x i w j → Adjacent s x w
  near_by {i = i} {j = j} (there, home, joins) = (i, j, there, home, joins)

  distinct_links : {x : ℕ} {p : State} → At states x p → (i : ℕ) → HasDistinctKeys link_eq (base_of p.bases.neighbourhood.links i)
  distinct_links {x} {p} at i = (S.sound x p at).neighbourhood.distinct_links i

  -- the sender's address is on that interface
  sender_on : (x i : ℕ) (a : Addr4) → IsInterfaceSender s x i a → (r : RouterSettings) × Router s x r × HasAddressOn r i a
  sender_on x i a (r, is, iface, at, first) = (r, is, (iface, at, contains_at iface.addrs 0 a first))

  -- a SYMMETRIC link with the sender's address is one with its interface
  record LinkOf (w j x i : ℕ) (q : State) (link : Link) : Type 0 where
    pub p : State
    pub at : At states x p
    pub there : Metric
    pub home : Metric
    pub key : LinkKey
    pub joins : Joins s w j x i there home
    pub is : IsLinkTo q p j i now there home key link

  link_of : (w j x i : ℕ) (q : State) (a : Addr4) (link : Link) → At states w q → IsInterfaceSender s x i a →
      IsSymmetricWith (base_of q.bases.neighbourhood.links j) now a link → LinkOf w j x i q link
  link_of w j x i q a link at sender (key, until, found, has, symmetric) =
      let stands : HasLink q j key link = (looks_up_links q j key link (distinct_links at j)).1 (until, found) in
      let (y, k, p, there, home, to, joins, is) = (S.settled w q at).link_from j key link stands ((tests_symmetric link now).0 symmetric) in
      let (r, router, on) = sender_on x i a sender in
      let same = S.scenario.addresses y x k i p.settings r a (S.routers.settings y p to) router ((is.addresses a).0 has) on in
      let P : ℕ → Type 0 = λ b. LinkOf w j b k q link in
      let Q : ℕ → Type 0 = λ b. LinkOf w j x b q link in
      subst Q same.1 (subst P same.0 (record { p = p; at = to; there = there; home = home; key = key; joins = joins; is = is }))

  linked : (x i w j : ℕ) (flag : Bool) → HoldsFlag s states now x i w j (Some flag) → AreJoined s x i w j
  linked x i w j flag (q, a, at, sender, selector) =
      let (link, is, _) = linked_of (Some flag) selector flag refl in
      let l = link_of w j x i q a link at sender is in
      (l.home, l.there, joins_back l.joins)

  deaf : (x i w j : ℕ) → HoldsFlag s states now x i w j None → AreJoined s x i w j → ⊥
  deaf x i w j (q, a, at, sender, selector) (there, home, joins) =
      let (r, router, on) = sender_on x i a sender in
      let (p, to) = S.routers.all x r router in
      let (key, link, stands, symmetric, is) = (S.settled w q at).link_to j x i p home there to (joins_back joins) in
      let (until, found) = (looks_up_links q j key link (distinct_links at j)).0 stands in
      let P : RouterSettings → Type 0 = λ b. HasAddressOn b i a in
      let has : Contains link.addrs a = (is.addresses a).1 (subst P (same_settings s states now S r to router) on) in
      unlinked_of None selector refl link (key, until, found, has, (tests_symmetric link now).1 symmetric)

  heard : (x i w j : ℕ) → AreJoined s x i w j → Contains (hearers_of s.arcs x i) (w, j)
  heard x i w j (there, home, joins) =
      let (arc, stands, from, at, to, to_at, _) = joins.out in
      subst (λ (n : ℕ). Contains (hearers_of s.arcs x i) (n, j)) to
      (subst (λ (n : ℕ). Contains (hearers_of s.arcs x i) (arc.to, n)) to_at (hearer s.arcs x i arc stands from at))

  routers : (x i w j : ℕ) → Contains (hearers_of s.arcs x i) (w, j) → w < length s.routers
  routers x i w j c =
      let (arc, stands, _, _, to) = hearer_of s.arcs x i w j c in
      let (_, _, (r, is)) = S.scenario.ends arc.from arc.from_iface arc.to arc.to_iface arc.metric (arc, stands, refl, refl, refl, refl, refl) in
      subst (λ (n : ℕ). n < length s.routers) to (slice_get_within s.routers arc.to r is)

  -- a joined interface has a least address
  faces : (x i w j : ℕ) → AreJoined s x i w j → i < faces_in (slice_get s.routers x)
  faces x i w j (there, home, joins) = grind (arith, common_steps, state_there, near_by, joined_back, joins_back, routers, faces_in, slice_get_within)

  face_at : {x i w j : ℕ} {p : State} → At states x p → AreJoined s x i w j → i < length p.settings.interfaces
  face_at {x} {i} {w} {j} {p} at link = subst (λ (o : Option RouterSettings). i < faces_in o) (S.routers.settings x p at) (faces x i w j link)

  -- the least metric to a neighbour over interface i, where some SYMMETRIC link there has one
  abbrev out_cost : Option Metric → ℕ
  out_cost None = 0
  out_cost (Some m) = metric_value m

  abbrev Fit : Neighbour → LinkKey × (Link × ℕ) → Type 0
  Fit n t = Contains n.addrs t.0.addr × (state_of t.1.0 now ≡ Is_symmetric) × ((m : Metric) × (t.1.0.link_out ≡ Some m))

  some_or_none : (o : Option Metric) → ((m : Metric) × (o ≡ Some m)) ⊎ (((m : Metric) × (o ≡ Some m)) → ⊥)
  some_or_none None = inr (λ h. (let e : None ≡ Some h.0 = h.1 in absurd (cc)))
  some_or_none (Some m) = inl (m, refl)

  fit : (n : Neighbour) (t : LinkKey × (Link × ℕ)) → Fit n t ⊎ (Fit n t → ⊥)
  fit n t =
      let P : Addr4 → Type 0 = λ b. b ≡ t.0.addr in
      let Q : Addr4 → Type 0 = λ b. Contains n.addrs b in
      elim (any_or_none P (λ b. same_address b t.0.addr) n.addrs) [
        | inl found ↦ elim (cases_Bool (is_symmetric t.1.0 now)) [
          | inl e ↦ elim (some_or_none t.1.0.link_out) [
            | inl m ↦ inl (subst Q found.2 found.1, (tests_symmetric t.1.0 now).0 e, m)
            | inr none ↦ inr (λ f. none f.2)
          ]
          | inr e ↦ inr (λ f. true_false ((tests_symmetric t.1.0 now).1 f.1) e)
        ]
        | inr none ↦ inr (λ f. none t.0.addr f.0 refl)
      ]

  over : (p : State) (i : ℕ) (n : Neighbour) (key : LinkKey) (link : Link) (out : Metric) → HasLink p i key link → Contains n.addrs key.addr →
      state_of link now ≡ Is_symmetric → link.link_out ≡ Some out → (m : Metric) × IsMetricOver p now i n m
  over p i n key link out (base, at, (until, stands)) has symmetric shown =
      elim (least_in (Fit n) (λ t. out_cost t.1.0.link_out) (fit n) base) [
        | inl found ↦
            let (t, stands_t, (has_t, symmetric_t, (m, is_m)), least) = found in (
              m,
              (
                (t.0, t.1.0, (base, at, (t.1.1, stands_t)), has_t, symmetric_t, is_m),
                λ k given.
                    (let (key', link', (base', at', (until', stands')), has', symmetric', is_k) = given in
                    let same : base' ≡ base = cc in
                    let here : Contains base (key', (link', until')) = subst (λ (b : Base LinkKey Link). Contains b (key', (link', until'))) same stands' in
                    let e : out_cost t.1.0.link_out ≡ metric_value m = ap out_cost is_m in
                    let f : out_cost link'.link_out ≡ metric_value k = ap out_cost is_k in
                    let g = least (key', (link', until')) here (has', symmetric', (k, is_k)) in
                    omega (arith, e, f, g)),
              ),
            )
        | inr none ↦ absurd (none (key, (link, until)) stands (has, symmetric, (out, shown)))
      ]

  -- a direct entry is a link over this interface
  by_direct : (x i z : ℕ) (p : State) (g : NeighbourGraph) (a : Addr4) → At states x p → IsFloodingGraph p now i g → AddressOf s z a →
      (d : Direct) → Contains g.direct d → d.addr ≡ a → (m : ℕ) × AreJoined s x i z m
  by_direct x i z p g a at graph is d stands of_a =
      let (o, n, m, has, over_m, _) = (graph.direct d).0 stands in
      let (key, link, there_is, on, symmetric, _) = over_m.0 in
      let (y, j, q, there, home, to, joins, given) = (S.settled x p at).link_from i key link there_is symmetric in
      let k = known_by s states now S d.addr o n z at has (subst (λ (b : Addr4). AddressOf s z b) (sym of_a) is) in
      let e : y ≡ z = owner s states now S y z key.addr (address_in s states now S key.addr to (j, given.keyed.0)) (known_address s states now S k key.addr on) in
      (j, subst (λ (u : ℕ). AreJoined s x i u j) e (there, home, joins))

  -- each link that a flooding relay holds with this interface has the flag
  selected : (x i w : ℕ) (p : State) (at : At states x p) (o : Addr4) (n : Neighbour) (relays : List Addr4) → HasSymmetric p o n → Known s states now S x p w o n →
      slice_get p.relays.flooding i ≡ Some relays → Contains relays o → IsSelected (net_of s states now 0) x i w
  selected x i w p at o n relays has k got chosen j flag (q, a, to, sender, selector) =
      let (link, is, same) = linked_of (Some flag) selector flag refl in
      let l = link_of w j x i q a link to sender is in
      let (key, own, stands, symmetric, given) = (S.settled x p at).link_to i w j q l.home l.there to (joins_back l.joins) in
      let b : Addr4 = key.addr in
      let on : HasAddressOn q.settings j b = given.keyed.0 in
      let in_link : Contains own.addrs b = (given.addresses b).1 on in
      let with_b : HasSymmetricWith p b o n = (has, (k.is.addresses b).1 (has_address s states now S b k.at (address_in s states now S b to (j, on)))) in
      let shows : Says p i now b Flooding = (own, (key, stands, in_link, symmetric), o, n, b, in_link, with_b, relays, got, chosen) in
      let shown : Says l.p i now b Flooding = subst (λ (r : State). Says r i now b Flooding) (same_state s states now S at l.at) shows in
      let flagged : link.selector ≡ true = l.is.selector.1 (b, on, shown) in
      sym same ∙ flagged

  -- a relay's way is a link over this interface, and one on
  by_relay : (x i z : ℕ) (p : State) (g : NeighbourGraph) (a : Addr4) (relays : List Addr4) → At states x p → IsFloodingGraph p now i g → AddressOf s z a →
      slice_get p.relays.flooding i ≡ Some relays → (id : Addr4) → Contains relays id → (f : Far) → Contains g.far f → f.via ≡ id → f.addr ≡ a →
      (w j k m : ℕ) × AreJoined s x i w j × AreJoined s w k z m × IsSelected (net_of s states now 0) x i w
  by_relay x i z p g a relays at graph is got id chosen f stands via of_a =
      let (key, t, n, k, m, two_hop, with, _, at_a, _, _) = (graph.far f).0 stands in
      let (w, j, q, there, home, to, joins, by) = (S.settled x p at).two_hop_from i key t two_hop in
      let (u, is_u, (first, last, there_z, home_z, joins_z)) = shown_near s states now S j key.addr to by.shown in
      let e : u ≡ z = owner s states now S u z key.addr is_u (subst (λ (b : Addr4). AddressOf s z b) (sym (at_a ∙ of_a)) is) in
      let known = known_by s states now S key.link.addr f.via n w at with (address_in s states now S key.link.addr to (j, by.link.0)) in
      let among : Contains relays f.via = subst (λ (b : Addr4). Contains relays b) (sym via) chosen in (
        w,
        j,
        first,
        last,
        (there, home, joins),
        subst (λ (b : ℕ). AreJoined s w first b last) e (there_z, home_z, joins_z),
        selected x i w p at f.via n relays with.0 known got among,
      )

  -- what covers
  covered : (x i v j k z l : ℕ) → AreJoined s x i v j → AreJoined s v k z l → (z ≡ x → ⊥) →
      ((m : ℕ) × AreJoined s x i z m) ⊎ ((w j k m : ℕ) × AreJoined s x i w j × AreJoined s w k z m × IsSelected (net_of s states now 0) x i w)
  covered x i v j k z l (there, home, joins) to_z other =
      let to_v : AreJoined s x i v j = (there, home, joins) in
      let (p, at) = state_there s states now S (near_by (joined_back to_v)) in
      let b = neighbouring s states now S v at (near_by to_v) in
      let c = neighbouring s states now S z b.k.at (near_by to_z) in
      let a : Addr4 = c.o in
      let is : AddressOf s z a = known_originator s states now S c.k in
      let (key, link, stands, symmetric, given) = (S.settled x p at).link_to i v j b.k.to there home b.k.at joins in
      let t : TwoHop = record { metric_in = Some c.k.home; metric_out = Some c.k.there } in
      let by : IsTwoHopBy p b.k.to j now (record { link = key; addr = a }) t = record {
        link = given.keyed;
        shown = shows_neighbour s states now S j a c is;
        not_mine = λ mine. other (owner s states now S z x a is (address_in s states now S a at mine));
        not_theirs = λ theirs. apart s states now S (near_by to_z) (owner s states now S v z a (address_in s states now S a b.k.at theirs) is);
        metric_in = inl (c.o, c.n, has_with s states now S c a is, c.k.is.metric_in);
        metric_out = inl (c.o, c.n, has_with s states now S c a is, c.k.is.metric_out);
      } in
      let two : HasTwoHop p i (record { link = key; addr = a }) t =
      (S.settled x p at).two_hop_to i v j b.k.to there home (record { link = key; addr = a }) t b.k.at joins by in
      let link_of_v : AddressOf s v key.addr = address_in s states now S key.addr b.k.at (j, given.keyed.0) in
      let with_v : HasSymmetricWith p key.addr b.o b.n = has_with s states now S b key.addr link_of_v in
      let (m, over_m) = over p i b.n key link there stands with_v.1 symmetric given.link_out in
      let sound : AreRelays p now = subst (λ (n : ℕ). AreRelays p n) (S.moment x p at) (S.sound x p at).relays in
      elim ((slice_get_cases p.relays.flooding i).1) [
        | inl found ↦
            let (relays, _, got, _) = found in
            let (g, graph, chosen) = sound.flooding i relays got in
            let near : Near = record { id = b.o; cost = metric_value m; will = b.n.willing.flooding } in
            let near_stands : Contains g.near near = (graph.near near).1 (b.n, m, b.has, over_m, refl, refl) in
            let wills : IsWilling near = λ none. willing v b.k.to.settings (S.routers.settings v b.k.to b.k.at) (ap (λ (w : Wills). w.flooding) (sym b.k.is.willing) ∙ none) in
            let far : Far = record { via = b.o; addr = a; cost = metric_value c.k.there } in
            let far_stands : Contains g.far far = (graph.far far).1 (record { link = key; addr = a }, t, b.n, m, c.k.there, two, with_v, over_m, refl, refl, refl) in
            let offer : Offers g IsWilling a (metric_value m + metric_value c.k.there) = inr (near, near_stands, wills, far, far_stands, refl, refl, refl) in
            let (e, offered, _) = chosen.covers.as_cheap far (metric_value m + metric_value c.k.there) far_stands offer in
            elim offered [
              | inl direct ↦ let (d, d_stands, of_a, _) = direct in inl (by_direct x i z p g a at graph is d d_stands of_a)
              | inr relayed ↦
                  let (relay, _, among, f, f_stands, via, of_a, _) = relayed in
                  inr (by_relay x i z p g a relays at graph is got relay.id among f f_stands via of_a)
            ]
        | inr past ↦ (let l = face_at at to_v in let e = sound.interfaces in let h = past.0 in absurd (omega (arith, l, e, h)))
      ]

  pub settled_covers : (limit : ℕ) → length s.routers ≤ limit → IsCovering (net_of s states now limit)
  settled_covers limit enough = record {
    linked = linked;
    deaf = deaf;
    heard = heard;
    routers = routers;
    faces = faces;
    hops = λ h less. omega (arith, enough, less);
    covered = covered;
  }
