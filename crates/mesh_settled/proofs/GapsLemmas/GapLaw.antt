-- A router is settled exactly where it has no gap.
use Rattle.mesh_settled.proofs.Common.{common_steps, ◌≡◌, ℕ, zero, suc, ◌+◌, ◌*◌, ◌<◌, ◌≤◌, ◌⊎◌, inl, inr, arith, refl, sym, ◌∙◌, ap, subst, [], ◌∷◌, List, Option, Some, None, Bool, true, false, cond, slice_get, ◌↔◌, Contains, list_any, none-some, Addr4, NetAddr, RadioGraph, Metric, Interface, RouterSettings, Scenario, LinkKey, TwoHopKey, Base, Has, metric_value, Says, Flooding, Routing, Joins, Adjacent, IsMetric, At, IsLeastAddress, IsLinkTo, IsNeighbourOf, IsTwoHopBy, IsPeer, IsRouterBy, IsAddressBy, IsNetworkBy, IsSettledAt, Symmetric as Is_symmetric, State, state_of, HasLink, HasTwoHop, HasSymmetric, HasAddress, Decides-some, joins_back, sound_scenario, Link, Neighbour, TwoHop, Router, Address, Network, Field, AllSame, link_fields, neighbour_fields, two_hop_fields, topology_fields, router_fields, address_fields, network_fields, known_cost, Look, look, IsHeldTopic, IsPresentTopic, AreSame, HasNoGap, all_addresses, IsNetwork, one_originator, some_equal as some_nat, same_some, same_answer}
use Rattle.std.proofs.lemmas.List.Elements.{Contains-append_cases, Contains-append_left, Contains-append_right}
use mathlib.Core.HLevel.{is_prop→PathP}
use Rattle.std.specs.Coded.{le_prop}
use Rattle.mesh_atoms.specs.declared.hello.Willing.{Willing}
use Rattle.mesh_atoms.specs.declared.tuples.Link.{Link as LinkTuple}
use Rattle.mesh_atoms.specs.declared.tuples.Neighbour.{Neighbour as NeighbourTuple}
use Rattle.mesh_atoms.specs.declared.tuples.TwoHop.{TwoHop as TwoHopTuple}
use Rattle.mesh_atoms.specs.declared.tuples.RouterTuple.{RouterTuple}
use Rattle.mesh_atoms.specs.declared.tuples.AddressTuple.{AddressTuple}
use Rattle.mesh_atoms.specs.declared.tuples.NetworkTuple.{NetworkTuple}
use Rattle.mesh_atoms.proofs.CodesLemmas.CodeLaws.{cost-injective}
use Rattle.mesh_settled.specs.Gaps.Law.{NoGapIsSettled}
use Rattle.mesh_settled.proofs.GapsLemmas.FaceLemmas.{end_has_least}
use Rattle.mesh_settled.proofs.GapsLemmas.MetricLemmas.{has_metric}
use Rattle.mesh_settled.proofs.GapsLemmas.ShownLemmas.{shows_flooding, shows_routing}
use Rattle.mesh_settled.proofs.GapsLemmas.Sides.{all_self, all_sym}

-- Values that fields tell

pub same_metric : (a b : Metric) → metric_value a ≡ metric_value b → a ≡ b
same_metric a b e =
    subst (λ (k : ℕ). (h : k < 4096) → a ≡ record { code = k; in_range = h }) (cost-injective a.code b.code e)
    (λ h. ap (λ (x : a.code < 4096). let m : Metric = record { code = a.code; in_range = x } in m) (le_prop a.in_range h)) b.in_range

pub same_metrics : (a b : Option Metric) → known_cost a ≡ known_cost b → a ≡ b
same_metrics None None e = refl
same_metrics None (Some m) e = absurd (none-some (metric_value m) e)
same_metrics (Some m) None e = absurd (none-some (metric_value m) (sym e))
same_metrics (Some m) (Some n) e = ap (λ (k : Metric). Some k) (same_metric m n (same_some refl e))

same_bools : (a b : Bool) → ◌≡◌ {A = Option ℕ} (Some (cond a 1 0)) (Some (cond b 1 0)) → a ≡ b
same_bools a b e = grind (arith, common_steps, some_nat)

same_least : (r : RouterSettings) (j : ℕ) (a b : Addr4) → IsLeastAddress r j a → IsLeastAddress r j b → a ≡ b
same_least r j a b v w =
    let low : a.0 ≤ b.0 = v.1 b w.0 in
    let high : b.0 ≤ a.0 = w.1 a v.0 in
    let e : a.0 ≡ b.0 = omega arith in
    ap (λ (n : ℕ). let r : Addr4 = record { 0 = n } in r) e

same_willing : (a b : Willing) → 16 * a.flooding + a.routing ≡ 16 * b.flooding + b.routing → a ≡ b
same_willing a b e =
    let low_a = a.routing_within in
    let low_b = b.routing_within in
    let m : a.flooding ≡ b.flooding = omega (arith, e, low_a, low_b) in
    let n : a.routing ≡ b.routing = omega (arith, e, m) in
    λ i. record {
      flooding = m i;
      routing = n i;
      flooding_within = is_prop→PathP (λ j. m j ≤ 15) (λ j. le_prop) a.flooding_within b.flooding_within i;
      routing_within = is_prop→PathP (λ j. n j ≤ 15) (λ j. le_prop) a.routing_within b.routing_within i;
    }

-- what holds of a tuple holds of each that has the same fields, where these tell it
told : {V : Type 0} (fields : V → List Field) → ((t u : V) → AllSame (fields t) (fields u) → u ≡ t) → (P : V → Type 0) (t u : V) (gs : List Field) → P u → gs ≡ fields u → AllSame (fields t) gs → P t
told fields one P t u gs p is all = subst P (one t u (subst (AllSame (fields t)) is all)) p

-- and topology tuples are told so
topology_told : {m n : ℕ} {a b : Metric} {d e : Option ℕ} → AllSame (topology_fields m a d) (topology_fields n b e) → (n ≡ m) × (b ≡ a) × (e ≡ d)
topology_told {m} {n} {a} {b} all = (sym (some_nat m n all.0), sym (same_metric a b (same_some refl all.1.0)), sym all.1.1.0)

router_is : (t u : RouterTuple) → AllSame (router_fields t) (router_fields u) → u ≡ t
router_is t u all = let e = topology_told all in λ d. record { ansn = e.0 d; metric = e.1 d }

address_is : (t u : AddressTuple) → AllSame (address_fields t) (address_fields u) → u ≡ t
address_is t u all = let e = topology_told all in λ d. record { ansn = e.0 d; metric = e.1 d }

network_is : (t u : NetworkTuple) → AllSame (network_fields t) (network_fields u) → u ≡ t
network_is t u all =
    let e = topology_told all in
    let distance : u.distance ≡ t.distance = some_nat u.distance t.distance e.2 in
    λ d. record { ansn = e.0 d; distance = distance d; metric = e.1 d }

in_all : (faces : List Interface) (a : Addr4) → Contains (all_addresses faces) a → (k : ℕ) × (f : Interface) × (slice_get faces k ≡ Some f) × Contains f.addrs a
in_all [] a w = absurd (omega (arith, w.1))
in_all (f ∷ faces) a w = elim (Contains-append_cases f.addrs (all_addresses faces) a w) [
  | inl here ↦ (0, f, refl, here)
  | inr later ↦ let h = in_all faces a later in (suc h.0, h.1, h.2, h.3)
]

of_all : (faces : List Interface) (k : ℕ) (f : Interface) (a : Addr4) → slice_get faces k ≡ Some f → Contains f.addrs a → Contains (all_addresses faces) a
of_all [] k f a at c = absurd (none-some f at)
of_all (g ∷ faces) zero f a at c = Contains-append_left g.addrs (all_addresses faces) a (subst (λ (h : Interface). Contains h.addrs a) (sym (same_some refl at)) c)
of_all (g ∷ faces) (suc k) f a at c = Contains-append_right g.addrs (all_addresses faces) a (of_all faces k f a at c)

pub all_are : (r : RouterSettings) (a : Addr4) → Contains (all_addresses r.interfaces) a ↔ HasAddress r a
all_are r a = (λ w. let h = in_all r.interfaces a w in (h.0, (h.1, h.2, h.3)), λ h. of_all r.interfaces h.0 h.1.0 a h.1.1 h.1.2)

module _ (s : Scenario) (graph : RadioGraph) (states : List State) (now x : ℕ) (p : State) (net : IsNetwork s graph states now) (at : At states x p) where
  abbrev l : Look
  l = look s states now x p

  -- Links

  links_alike : {q : State} {i j : ℕ} {there back : Metric} {key key' : LinkKey} (t t' : LinkTuple) → IsLinkTo p q i j now there back key t → IsLinkTo p q i j now there back key' t' → AllSame (link_fields t) (link_fields t')
  links_alike t t' is is' = (
    λ a. (λ w. (is'.addresses a).1 ((is.addresses a).0 w), λ w. (is.addresses a).1 ((is'.addresses a).0 w)),
    (
      ap (λ (m : Metric). Some (metric_value m)) (is.link_in ∙ sym is'.link_in),
      (
        ap known_cost (is.link_out ∙ sym is'.link_out),
        (
          ap (λ (b : Bool). Some (cond b 1 0)) (same_answer t.selector t'.selector is.selector is'.selector),
          tt,
        ),
      ),
    ),
  )

  link_as : {q : State} {i j : ℕ} {there back : Metric} {key : LinkKey} (t t' : LinkTuple) → IsLinkTo p q i j now there back key t' → AllSame (link_fields t) (link_fields t') → IsLinkTo p q i j now there back key t
  link_as t t' is all = record {
    keyed = is.keyed;
    addresses = λ a. (λ w. (is.addresses a).0 ((all.0 a).0 w), λ w. (all.0 a).1 ((is.addresses a).1 w));
    link_in = same_metric t.link_in t'.link_in (same_some refl all.1.0) ∙ is.link_in;
    link_out = same_metrics t.link_out t'.link_out all.1.1.0 ∙ is.link_out;
    selector = let e = same_bools t.selector t'.selector all.1.1.1.0 in (λ h. is.selector.0 (sym e ∙ h), λ w. e ∙ is.selector.1 w);
  }

  -- Neighbours

  equal_values : {y z : ℕ} (m n : Metric) → IsMetric s y z m → IsMetric s y z n → metric_value m ≡ metric_value n
  equal_values m n v w =
      let a = v.some in
      let b = w.some in
      let low = v.least b.0 b.1 n b.2 b.3 in
      let high = w.least a.0 a.1 m a.2 a.3 in
      omega (arith, low, high)

  pub neighbours_alike : {y : ℕ} {q : State} {there back there' back' : Metric} {o o' : Addr4} (t t' : NeighbourTuple) → IsMetric s x y there → IsMetric s y x back → IsNeighbourOf p q now there back o t →
      IsMetric s x y there' → IsMetric s y x back' → IsNeighbourOf p q now there' back' o' t' → AllSame (neighbour_fields t) (neighbour_fields t')
  neighbours_alike {y} {q} {there} {back} {there'} {back'} t t' m n is m' n' is' = (
    λ a. (λ w. (is'.addresses a).1 ((is.addresses a).0 w), λ w. (is.addresses a).1 ((is'.addresses a).0 w)),
    (
      ap (λ (w : Willing). Some (16 * w.flooding + w.routing)) (is.willing ∙ sym is'.willing),
      (
        ap known_cost is.metric_in ∙ (ap (λ (v : ℕ). Some v) (equal_values back back' n n') ∙ ap known_cost (sym is'.metric_in)),
        (
          ap known_cost is.metric_out ∙ (ap (λ (v : ℕ). Some v) (equal_values there there' m m') ∙ ap known_cost (sym is'.metric_out)),
          (
            ap (λ (b : Bool). Some (cond b 1 0)) (same_answer t.selector t'.selector (is.selector 0) (is'.selector 0)),
            tt,
          ),
        ),
      ),
    ),
  )

  module _ (settled : IsSettledAt s states now x p) where
    neighbour_same : (o : Addr4) → AreSame l (Neighbour o)
    neighbour_same o = record {
      held = λ fs w. let g = settled.neighbour_from o w.0 w.1 in inr (fs, (g.0, g.1, g.2, g.3, w.0, g.4, g.5, g.6, g.7, w.2), all_self fs);
      present = λ gs w.
          let some = w.6.some in
          let h = settled.neighbour_to w.0 w.1 w.5 (some.0, some.1, w.2, some.2, some.3) in
          let key_is : h.0 ≡ o = one_originator w.1.settings h.0 o h.7.originator_is w.8.originator_is in (
            neighbour_fields h.1,
            (h.1, subst (λ (a : Addr4). HasSymmetric p a h.1) key_is h.4, refl),
            subst (λ (fs : List Field). AllSame fs (neighbour_fields h.1)) (sym w.9) (neighbours_alike w.4 h.1 w.6 w.7 w.8 h.5 h.6 h.7),
          );
    }

    network_same : (from : Addr4) (n : NetAddr) → AreSame l (Network from n)
    network_same from n = record {
      held = λ fs w. elim (settled.network_from (record { from = from; net = n }) w.0 w.1) [ inl stray ↦ inl stray | inr g ↦ inr (fs, (g.0, g.1, w.0, g.2, g.3, w.2), all_self fs) ];
      present = λ gs w. (gs, (w.2, settled.network_to w.0 w.1 (record { from = from; net = n }) w.2 w.3 w.4, w.5), all_self gs);
    }

    link_same : (i : ℕ) (key : LinkKey) → AreSame l (Link i key)
    link_same i key = record {
      held = λ fs w. let g = settled.link_from i key w.0 w.1 w.2 in inr (fs, (g.0, g.1, g.2, g.3, g.4, w.0, g.5, g.6, g.7, w.3), all_self fs);
      present = λ gs w.
          let h = settled.link_to i w.0 w.1 w.2 w.3 w.4 w.6 w.7 in
          let key_is : h.0 ≡ key = ap (λ (a : Addr4). let k : LinkKey = record { addr = a } in k) (same_least w.2.settings w.1 h.0.addr key.addr h.4.keyed w.8.keyed) in (
            link_fields h.1,
            (h.1, subst (λ (k : LinkKey). HasLink p i k h.1) key_is h.2, h.3, refl),
            subst (λ (fs : List Field). AllSame fs (link_fields h.1)) (sym w.9) (links_alike w.5 h.1 w.8 h.4),
          );
    }

    two_hop_same : (i : ℕ) (key : TwoHopKey) → AreSame l (TwoHop i key)
    two_hop_same i key = record {
      held = λ fs w. let g = settled.two_hop_from i key w.0 w.1 in inr (fs, (g.0, g.1, g.2, g.3, g.4, w.0, g.5, g.6, g.7, w.2), all_self fs);
      present = λ gs w. (gs, (w.5, settled.two_hop_to i w.0 w.1 w.2 w.3 w.4 key w.5 w.6 w.7 w.8, w.9), all_self gs);
    }

    router_same : (from to : Addr4) → AreSame l (Router from to)
    router_same from to = record {
      held = λ fs w. elim (settled.router_from (record { from = from; to = to }) w.0 w.1) [ inl stray ↦ inl stray | inr g ↦ inr (fs, (g.0, g.1, w.0, g.2, g.3, w.2), all_self fs) ];
      present = λ gs w. (gs, (w.2, settled.router_to w.0 w.1 (record { from = from; to = to }) w.2 w.3 w.4, w.5), all_self gs);
    }

    address_same : (from a : Addr4) → AreSame l (Address from a)
    address_same from a = record {
      held = λ fs w. elim (settled.address_from (record { from = from; addr = a }) w.0 w.1) [ inl stray ↦ inl stray | inr g ↦ inr (fs, (g.0, g.1, w.0, g.2, g.3, w.2), all_self fs) ];
      present = λ gs w. (gs, (w.2, settled.address_to w.0 w.1 (record { from = from; addr = a }) w.2 w.3 w.4, w.5), all_self gs);
    }

  module _ (same : HasNoGap l) where
    link_from : (i : ℕ) (key : LinkKey) (link : LinkTuple) → HasLink p i key link → state_of link now ≡ Is_symmetric →
        (y j : ℕ) × (q : State) × (there back : Metric) × At states y q × Joins s x i y j there back × IsLinkTo p q i j now there back key link
    link_from i key t has symmetric = elim ((same (Link i key)).held (link_fields t) (t, has, symmetric, refl)) [
      | inl none ↦ absurd none
      | inr g ↦ let w = g.1 in (w.0, w.1, w.2, w.3, w.4, w.6, w.7, link_as t w.5 w.8 (subst (λ (fs : List Field). AllSame (link_fields t) fs) w.9 g.2))
    ]

    link_to : (i y j : ℕ) (q : State) (there back : Metric) → At states y q → Joins s x i y j there back →
        (key : LinkKey) × (link : LinkTuple) × HasLink p i key link × (state_of link now ≡ Is_symmetric) × IsLinkTo p q i j now there back key link
    link_to i y j q there back at_y joins =
        let (a, least) = end_has_least s x i y j there q.settings joins.out (net.routers.settings y q at_y) in
        let (b, mine) = end_has_least s y j x i back p.settings joins.home (net.routers.settings x p at) in
        let face = mine.0 in
        let test = Decides-some (λ (c : Addr4). (shows_flooding q j now c).0) (λ (c : Addr4). Says q j now c Flooding) (λ c. (shows_flooding q j now c).1) face.0.addrs in
        let chosen : Bool = list_any (λ (c : Addr4). (shows_flooding q j now c).0) face.0.addrs in
        let theirs = least.0 in
        let link : LinkTuple = record { addrs = theirs.0.addrs; heard = 0; sym = 0; quality = 0; pending = false; lost = false; link_in = back; link_out = Some there; selector = chosen } in
        let is : IsLinkTo p q i j now there back (record { addr = a }) link = record {
          keyed = least;
          addresses = λ c. (λ w. (theirs.0, theirs.1, w), λ h. subst (λ (f : Interface). Contains f.addrs c) (same_some h.1 theirs.1) h.2);
          link_in = refl;
          link_out = refl;
          selector = (λ e. let w = test.0 e in (w.0, (face.0, face.1, w.1), w.2), λ w. test.1 (w.0, subst (λ (f : Interface). Contains f.addrs w.0) (same_some w.1.1 face.1) w.1.2, w.2));
        } in
        let g = (same (Link i (record { addr = a }))).present (link_fields link) (y, j, q, there, back, link, at_y, joins, is, refl) in
        let h = g.1 in
        (record { addr = a }, h.0, h.1, h.2, link_as h.0 link is (all_back h.0 link (subst (λ (fs : List Field). AllSame (link_fields link) fs) h.3 g.2)))
      where
        all_back : (t t' : LinkTuple) → AllSame (link_fields t') (link_fields t) → AllSame (link_fields t) (link_fields t')
        all_back t t' all = all_sym (link_fields t') (link_fields t) all

    tuple_is : (t t' : TwoHopTuple) → AllSame (two_hop_fields t) (two_hop_fields t') → t' ≡ t
    tuple_is t t' all =
        let m = sym (same_metrics t.metric_in t'.metric_in all.0) in
        let n = sym (same_metrics t.metric_out t'.metric_out all.1.0) in
        λ d. record { metric_in = m d; metric_out = n d }

    two_hop_from : (i : ℕ) (key : TwoHopKey) (t : TwoHopTuple) → HasTwoHop p i key t →
        (y j : ℕ) × (q : State) × (there back : Metric) × At states y q × Joins s x i y j there back × IsTwoHopBy p q j now key t
    two_hop_from i key t has = elim ((same (TwoHop i key)).held (two_hop_fields t) (t, has, refl)) [
      | inl none ↦ absurd none
      | inr g ↦ let w = g.1 in (w.0, w.1, w.2, w.3, w.4, w.6, w.7, told two_hop_fields tuple_is (λ u. IsTwoHopBy p w.2 w.1 now key u) t w.5 g.0 w.8 w.9 g.2)
    ]

    two_hop_to : (i y j : ℕ) (q : State) (there back : Metric) (key : TwoHopKey) (t : TwoHopTuple) → At states y q → Joins s x i y j there back →
        IsTwoHopBy p q j now key t → HasTwoHop p i key t
    two_hop_to i y j q there back key t at_y joins by =
        let g = (same (TwoHop i key)).present (two_hop_fields t) (y, j, q, there, back, t, at_y, joins, by, refl) in
        told two_hop_fields tuple_is (λ u. HasTwoHop p i key u) t g.1.0 g.0 g.1.1 g.1.2 g.2

    -- Neighbours

    neighbour_as : {q : State} {there back : Metric} {o : Addr4} (t t' : NeighbourTuple) → IsNeighbourOf p q now there back o t' → AllSame (neighbour_fields t) (neighbour_fields t') → IsNeighbourOf p q now there back o t
    neighbour_as t t' is all = record {
      originator_is = is.originator_is;
      addresses = λ a. (λ w. (is.addresses a).0 ((all.0 a).0 w), λ w. (all.0 a).1 ((is.addresses a).1 w));
      willing = same_willing t.willing t'.willing (same_some refl all.1.0) ∙ is.willing;
      metric_in = same_metrics t.metric_in t'.metric_in all.1.1.0 ∙ is.metric_in;
      metric_out = same_metrics t.metric_out t'.metric_out all.1.1.1.0 ∙ is.metric_out;
      selector = λ j. let e = same_bools t.selector t'.selector all.1.1.1.1.0 in (λ h. (is.selector j).0 (sym e ∙ h), λ w. e ∙ (is.selector j).1 w);
    }

    neighbour_from : (o : Addr4) (n : NeighbourTuple) → HasSymmetric p o n →
        (y : ℕ) × (q : State) × (there back : Metric) × At states y q × IsMetric s x y there × IsMetric s y x back × IsNeighbourOf p q now there back o n
    neighbour_from o t has = elim ((same (Neighbour o)).held (neighbour_fields t) (t, has, refl)) [
      | inl none ↦ absurd none
      | inr g ↦ let w = g.1 in (w.0, w.1, w.2, w.3, w.5, w.6, w.7, neighbour_as t w.4 w.8 (subst (λ (fs : List Field). AllSame (neighbour_fields t) fs) w.9 g.2))
    ]

    neighbour_to : (y : ℕ) (q : State) → At states y q → Adjacent s x y →
        (o : Addr4) × (n : NeighbourTuple) × (there back : Metric) × HasSymmetric p o n × IsMetric s x y there × IsMetric s y x back × IsNeighbourOf p q now there back o n
    neighbour_to y q at_y (i, j, m, n, joins) =
        let (there, there_is) = has_metric s graph net.graph x y i j m n joins in
        let (back, back_is) = has_metric s graph net.graph y x j i n m (joins_back joins) in
        let (o, is_o) = (sound_scenario s).originators y q.settings (net.routers.settings y q at_y) in
        let mine = all_addresses p.settings.interfaces in
        let theirs = all_addresses q.settings.interfaces in
        let test = Decides-some (λ (c : Addr4). (shows_routing q 0 now c).0) (λ (c : Addr4). Says q 0 now c Routing) (λ c. (shows_routing q 0 now c).1) mine in
        let chosen : Bool = list_any (λ (c : Addr4). (shows_routing q 0 now c).0) mine in
        let t : NeighbourTuple = record { addrs = theirs; symmetric = true; metric_in = Some back; metric_out = Some there; willing = q.settings.willing; selector = chosen } in
        let is : IsNeighbourOf p q now there back o t = record {
          originator_is = is_o;
          addresses = λ a. all_are q.settings a;
          willing = refl;
          metric_in = refl;
          metric_out = refl;
          selector = λ j. (λ e. let w = test.0 e in (w.0, (all_are p.settings w.0).0 w.1, w.2), λ w. test.1 (w.0, (all_are p.settings w.0).1 w.1, w.2));
        } in
        let g = (same (Neighbour o)).present (neighbour_fields t) (y, q, there, back, t, at_y, there_is, back_is, is, refl) in
        let h = g.1 in
        (o, h.0, there, back, h.1, there_is, back_is, neighbour_as h.0 t is (all_sym (neighbour_fields t) (neighbour_fields h.0) (subst (λ (fs : List Field). AllSame (neighbour_fields t) fs) h.2 g.2)))

    -- Topology

    -- of a key, the router holds tuples, and the TCs of the routers joined with it say some
    module _ {K V : Type 0} (base : Base K V) (by : State → K → V → Type 0) (fields : V → List Field) (one : (t u : V) → AllSame (fields t) (fields u) → u ≡ t) (key : K) where
      said : {E : Type 0} → ((fs : List Field) → IsHeldTopic base fields key fs → E ⊎ ((gs : List Field) × IsPresentTopic l by fields key gs × AllSame fs gs)) → (t : V) → Has base key t → E ⊎ ((w : ℕ) × (q : State) × IsPeer s states x w q × by q key t)
      said all t has = elim (all (fields t) (t, has, refl)) [ inl e ↦ inl e | inr g ↦ let w = g.1 in inr (w.0, w.1, w.3, told fields one (by w.1 key) t w.2 g.0 w.4 w.5 g.2) ]

      held : ((gs : List Field) → IsPresentTopic l by fields key gs → (fs : List Field) × IsHeldTopic base fields key fs × AllSame gs fs) → (w : ℕ) (q : State) (t : V) → IsPeer s states x w q → by q key t → Has base key t
      held all w q t peer given = let g = all (fields t) (w, q, t, peer, given, refl) in told fields one (Has base key) t g.1.0 g.0 g.1.1 g.1.2 g.2

    settled_of : IsSettledAt s states now x p
    settled_of = record {
      link_from = link_from;
      link_to = link_to;
      neighbour_from = neighbour_from;
      neighbour_to = neighbour_to;
      two_hop_from = two_hop_from;
      two_hop_to = two_hop_to;
      router_from = λ key. said p.bases.topology.routers IsRouterBy router_fields router_is key (same (Router key.from key.to)).held;
      router_to = λ w q key. held p.bases.topology.routers IsRouterBy router_fields router_is key (same (Router key.from key.to)).present w q;
      address_from = λ key. said p.bases.topology.addresses IsAddressBy address_fields address_is key (same (Address key.from key.addr)).held;
      address_to = λ w q key. held p.bases.topology.addresses IsAddressBy address_fields address_is key (same (Address key.from key.addr)).present w q;
      network_from = λ key. said p.bases.topology.networks IsNetworkBy network_fields network_is key (same (Network key.from key.net)).held;
      network_to = λ w q key. held p.bases.topology.networks IsNetworkBy network_fields network_is key (same (Network key.from key.net)).present w q;
    }

  no_gap : IsSettledAt s states now x p → HasNoGap l
  no_gap settled (Link i key) = link_same settled i key
  no_gap settled (Neighbour o) = neighbour_same settled o
  no_gap settled (TwoHop i key) = two_hop_same settled i key
  no_gap settled (Router from to) = router_same settled from to
  no_gap settled (Address from a) = address_same settled from a
  no_gap settled (Network from n) = network_same settled from n

pub law : NoGapIsSettled
law s g states now x p net at = (no_gap s g states now x p net at, settled_of s g states now x p net at)
