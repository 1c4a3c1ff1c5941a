-- Links that are held.
use Rattle.mesh_settled.proofs.Common.{◌≡◌, ℕ, ◌<◌, ◌≤◌, ◌⊎◌, inl, inr, arith, refl, sym, ◌∙◌, ap, subst, length, [], List, Option, Some, None, Bool, true, false, cond, ◌↔◌, IsTrue, slice_get, Contains, Bor, false≢true, none-some, get_or_from_slice_get, slice_get_within, Addr4, Pair, RadioGraph, Metric, RouterSettings, Scenario, metric_value, Says, Flooding, IsValue, Joins, At, IsLinkTo, IsLeastAddress, LinkKey, HasDistinctKeys, find, base_of, link_eq, Symmetric as Is_symmetric, State, is_symmetric, state_of, HasAddressOn, looks_up_links, tests_symmetric, sound_scenario, Found, GapKey, Link as Of_link, Joint, Field, AllSame, link_fields, known_cost, IsSide, IsLeastGap, lesser, Look, look, IsHeldTuple, IsPresentTuple, IsHeldLink, IsPresentLink, IsJointWith, IsLeastOf, IsNetwork, symmetric_fields, given_link, IsLinkHeld, IsGivenAt, IsGiven, IsLinkKey, same_some, same_answer, place_of as place_in}
use Rattle.mesh_atoms.specs.declared.tuples.Link.{Link}
use Rattle.mesh_settled.specs.declared.gaps.links.GivenLink.{GivenLink}
use Rattle.mesh_settled.specs.Gaps.Links.{IsGivenBy}
use Rattle.mesh_settled.proofs.GapsLemmas.JointLemmas.{same_state}
use Rattle.mesh_settled.proofs.GapsLemmas.Leasts.{least_as, least_all, least_lesser}
use Rattle.mesh_settled.proofs.GapsLemmas.Sides.{all_self}

module _ (p : State) (now i : ℕ) (key : LinkKey) (distinct : HasDistinctKeys link_eq (base_of p.bases.neighbourhood.links i)) where
  abbrev stands : Option (Link × ℕ)
  stands = find link_eq (base_of p.bases.neighbourhood.links i) key

  -- each link that is held is the one that is found
  found : (e : Link × ℕ) → stands ≡ Some e → (fs : List Field) (w : IsHeldLink p now i key fs) → w.0 ≡ e.0
  found e is fs w = let f = (looks_up_links p i key w.0 distinct).0 w.1 in ap (λ (x : Link × ℕ). x.0) (same_some f.1 is)

  by_case : (e : Link × ℕ) → stands ≡ Some e → (b : Bool) → is_symmetric e.0 now ≡ b → IsSide (IsHeldLink p now i key) (cond b (Some (link_fields e.0)) None)
  by_case e is true symmetric = (
    (e.0, (looks_up_links p i key e.0 distinct).1 (e.1, is), (tests_symmetric e.0 now).0 symmetric, refl),
    λ gs w.
        let same : w.0 ≡ e.0 = found e is gs w in
        subst (λ (hs : List Field). AllSame hs (link_fields e.0)) (sym (w.3 ∙ ap link_fields same)) (all_self (link_fields e.0)),
  )
  by_case e is false other = λ fs w.
      let same : w.0 ≡ e.0 = found e is fs w in
      let symmetric : state_of e.0 now ≡ Is_symmetric = subst (λ (t : Link). state_of t now ≡ Is_symmetric) same w.2 in
      false≢true (sym other ∙ (tests_symmetric e.0 now).1 symmetric)

  by_found : (o : Option (Link × ℕ)) → stands ≡ o → IsSide (IsHeldLink p now i key) (symmetric_fields now o)
  by_found None is = λ fs w. let f = (looks_up_links p i key w.0 distinct).0 w.1 in none-some (w.0, f.0) (sym is ∙ f.1)
  by_found (Some e) is = by_case e is (is_symmetric e.0 now) refl

  pub held_side : IsSide (IsHeldLink p now i key) (symmetric_fields now (find link_eq (base_of p.bases.neighbourhood.links i) key))
  held_side = by_found stands refl

-- Links that are given

module _ (s : Scenario) (graph : RadioGraph) (states : List State) (now x : ℕ) (p : State) (net : IsNetwork s graph states now) where
  module _ (i : ℕ) (key : LinkKey) where
    abbrev l : Look
    l = look s states now x p

    module _ (joint : Joint) (with : IsJointWith s states x i key.addr joint) (q : State) (at : At states joint.to q) (g : GivenLink) (by : IsGivenBy p q i now joint g) where
      -- a link that says what is given
      abbrev link : Link
      link = record { addrs = g.addrs.now; heard = 0; sym = 0; quality = 0; pending = false; lost = false; link_in = g.link_in; link_out = Some g.link_out; selector = g.selector }

      least : IsLeastAddress q.settings joint.iface key.addr
      least = subst (λ (r : State). IsLeastAddress r.settings joint.iface key.addr) (same_state with.1.1 at) with.1.2

      given : IsPresentLink l i key (given_link g)
      given = (
        joint.to,
        joint.iface,
        q,
        joint.there,
        joint.back,
        link,
        at,
        with.0,
        record {
          keyed = least;
          addresses = by.addrs;
          link_in = by.link_in;
          link_out = ap (λ (m : Metric). Some m) by.link_out;
          selector = by.selector;
        },
        refl,
      )

      -- each link that is given says the same
      one : (gs : List Field) → IsPresentLink l i key gs → AllSame gs (given_link g)
      one gs (y, j, r, there, back, t, at_y, joins, is, same) =
          let ends = (sound_scenario s).addresses y joint.to j joint.iface r.settings q.settings key.addr (net.routers.settings y r at_y) (net.routers.settings joint.to q at) is.keyed.0 least.0 in
          alike gs y j r there back t at_y joins is same ends.0 ends.1
        where
          alike : (gs : List Field) (y j : ℕ) (r : State) (there back : Metric) (t : Link) → At states y r → Joins s x i y j there back → IsLinkTo p r i j now there back key t → gs ≡ link_fields t →
              y ≡ joint.to → j ≡ joint.iface → AllSame gs (given_link g)
          alike gs y j r there back t at_y joins is same to iface =
              let r_is : r ≡ q = same_state (subst (λ (z : ℕ). At states z r) to at_y) at in
              let joins' : Joins s x i joint.to joint.iface there back = rw (← to, ← iface) joins in
              let there_is : there ≡ joint.there = (sound_scenario s).arcs x i joint.to joint.iface there joint.there joins'.out with.0.out in
              let back_is : back ≡ joint.back = (sound_scenario s).arcs joint.to joint.iface x i back joint.back joins'.home with.0.home in
              let is' : IsLinkTo p q i joint.iface now there back key t = rw (← r_is, ← iface) is in
              let fields : AllSame (link_fields t) (given_link g) = (
                λ a. (λ w. (by.addrs a).1 ((is'.addresses a).0 w), λ w. (is'.addresses a).1 ((by.addrs a).0 w)),
                (
                  ap (λ (m : Metric). Some (metric_value m)) (is'.link_in ∙ (back_is ∙ sym by.link_in)),
                  (
                    ap known_cost (is'.link_out ∙ ap (λ (m : Metric). Some m) (there_is ∙ sym by.link_out)),
                    (
                      ap (λ (b : Bool). Some (cond b 1 0)) (same_answer t.selector g.selector is'.selector by.selector),
                      tt,
                    ),
                  ),
                ),
              ) in
              subst (λ (hs : List Field). AllSame hs (given_link g)) (sym same) fields

      pub given_side : IsSide (IsPresentLink l i key) (Some (given_link g))
      given_side = (given, one)

    pub no_joint : ((joint : Joint) → IsJointWith s states x i key.addr joint → ⊥) → IsSide (IsPresentLink l i key) None
    no_joint none = λ gs w. none (record { to = w.0; iface = w.1; there = w.3; back = w.4 }) (w.7, (w.2, w.6, w.8.keyed))

pub given_is : (p q : State) (i now : ℕ) (joint : Joint) (addrs own : Bor (List Addr4)) (there here : RouterSettings) (selector : Bool) → there ≡ q.settings → here ≡ p.settings →
    ((a : Addr4) → Contains addrs.now a ↔ HasAddressOn there joint.iface a) → ((a : Addr4) → Contains own.now a ↔ HasAddressOn here i a) →
    IsTrue selector ↔ ((a : Addr4) × Contains own.now a × Says q joint.iface now a Flooding) →
    IsGivenBy p q i now joint (record { addrs = addrs; link_in = joint.back; link_out = joint.there; selector = selector })
given_is p q i now joint addrs own there here selector there_is here_is on mine selects =
    let f : (a : Addr4) → Contains addrs.now a ↔ HasAddressOn q.settings joint.iface a = rw there_is at on in
    let h : (a : Addr4) → Contains own.now a ↔ HasAddressOn p.settings i a = rw here_is at mine in
    record {
      addrs = f;
      link_in = refl;
      link_out = refl;
      selector = (λ e. let w = selects.0 e in (w.0, (h w.0).0 w.1, w.2), λ w. selects.1 (w.0, (h w.0).1 w.1, w.2));
    }

-- The keys that pairs give

pub end_is : (states : List State) (y j : ℕ) (q : State) → At states y q → (settings : RouterSettings) → settings ≡ q.settings → (o : Option Addr4) → IsValue (IsLeastAddress settings j) o → IsValue (IsLeastOf states y j) o
end_is states y j q at settings same None value = λ a w. value a (subst (λ (r : RouterSettings). IsLeastAddress r j a) (ap (λ (r : State). r.settings) (same_state w.1 at) ∙ sym same) w.2)
end_is states y j q at settings same (Some b) value = (q, at, subst (λ (r : RouterSettings). IsLeastAddress r j b) same value)

pub one_end : (states : List State) (y j : ℕ) (a b : Addr4) → IsLeastOf states y j a → IsLeastOf states y j b → a ≡ b
one_end states y j a b v w =
    let w' : IsLeastAddress v.0.settings j b = subst (λ (r : State). IsLeastAddress r.settings j b) (same_state w.1 v.1) w.2 in
    let low : a.0 ≤ b.0 = v.2.1 b w'.0 in
    let high : b.0 ≤ a.0 = w'.1 a v.2.0 in
    let e : a.0 ≡ b.0 = omega arith in
    ap (λ (n : ℕ). let r : Addr4 = record { 0 = n } in r) e

-- the key of a link to an address
abbrev pub key_to : ℕ → Addr4 → GapKey
key_to i a = Of_link i (record { addr = a })

pub given_key : (l : Look) (states : List State) (x : ℕ) (pair : Pair) (a : Addr4) (f : Option Found) → pair.from ≡ x → IsLeastOf states pair.to pair.to_iface a → IsLeastGap l (λ k. k ≡ key_to pair.from_iface a) f →
    IsLeastGap l (IsGivenAt states x pair) f
given_key l states x pair a f from is least =
    least_as l (λ k. k ≡ key_to pair.from_iface a) (IsGivenAt states x pair) (λ k same. (from, a, is, same))
    (λ k w. w.3 ∙ ap (λ (b : Addr4). key_to pair.from_iface b) (one_end states pair.to pair.to_iface w.1 a w.2 is)) f least

-- what the pair at a place gives
abbrev pub IsGivenByPlace : List State → ℕ → List Pair → ℕ → GapKey → Type 0
IsGivenByPlace states x pairs place k = (pair : Pair) × (slice_get pairs place ≡ Some pair) × IsGivenAt states x pair k

-- All keys of links

module _ (s : Scenario) (graph : RadioGraph) (states : List State) (now x : ℕ) (p : State) (net : IsNetwork s graph states now) (at : At states x p) where
  abbrev seen : Look
  seen = look s states now x p

  -- the keys that are looked at
  abbrev IsTried : GapKey → Type 0
  IsTried k = IsLinkHeld p k ⊎ IsGiven states x graph.pairs k

  in_kind : (k : GapKey) → IsTried k → IsLinkKey k
  in_kind k w = elim w [ inl h ↦ (h.0, h.2.2.0, h.2.2.3) | inr g ↦ (g.2.0.from_iface, record { addr = g.2.2.1 }, g.2.2.3) ]

  held_tried : (k : GapKey) (fs : List Field) → IsLinkKey k → IsHeldTuple seen k fs → IsTried k
  held_tried k fs (i, key, same) holds =
      let h : IsHeldLink p now i key fs = subst (λ (j : GapKey). IsHeldTuple seen j fs) same holds in
      let (base, is, has) = h.1 in
      let w = place_in base (key, (h.0, has.0)) has.1 in
      let base_is : base_of p.bases.neighbourhood.links i ≡ base = get_or_from_slice_get p.bases.neighbourhood.links i base [] is in
      let few : i < length p.bases.neighbourhood.links = slice_get_within p.bases.neighbourhood.links i base is in
      let faces : length p.bases.neighbourhood.links ≡ length p.settings.interfaces = (net.sound x p at).neighbourhood.interfaces in
      inl (i, omega arith, (w.0, rw base_is w.1, (key, (h.0, has.0), rw base_is w.2, same)))

  given_tried : (k : GapKey) (gs : List Field) → IsLinkKey k → IsPresentTuple seen k gs → IsTried k
  given_tried k gs (i, key, same) gives =
      let g : IsPresentLink seen i key gs = subst (λ (j : GapKey). IsPresentTuple seen j gs) same gives in
      let pair : Pair = record { from = x; from_iface = i; to = g.0; to_iface = g.1; metric = g.3 } in
      let w = place_in graph.pairs pair ((net.graph.pairs pair).1 (g.4, g.7)) in
      inr (w.0, w.1, (pair, w.2, (refl, key.addr, (g.2, g.6, g.8.keyed), same)))

  pub all_links : (f g : Option Found) → IsLeastGap seen (IsLinkHeld p) f → IsLeastGap seen (IsGiven states x graph.pairs) g → IsLeastGap seen IsLinkKey (lesser f g)
  all_links f g held given =
      least_all seen IsTried IsLinkKey (lesser f g) in_kind held_tried given_tried (least_lesser seen (IsLinkHeld p) (IsGiven states x graph.pairs) f g held given)
