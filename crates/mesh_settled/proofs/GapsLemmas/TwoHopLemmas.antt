-- 2-hop tuples on both sides.
use Rattle.mesh_settled.proofs.Common.{◌≡◌, ℕ, ◌⊎◌, inl, inr, refl, sym, ◌∙◌, ap, subst, [], List, Option, Some, None, Bool, true, false, cond, slice_get, ◌↔◌, IsTrue, not, ◌&&◌, Contains, option_map, false≢true, get_or_from_slice_get, Addr4, Pair, RadioGraph, Metric, Scenario, TwoHopKey, Has, HasDistinctKeys, find, base_of, two_hop_eq, SaysSymmetric, At, IsTwoHopBy, IsLeastAddress, State, HasAddress, HasTwoHop, is_symmetric, link_at, Joins, tests_symmetric, looks_up_links, looks_up_two_hops, looks_up_neighbours, sound_scenario, Found, GapKey, Link as Of_link, TwoHop as Of_two_hop, Field, AllSame, link_fields, two_hop_fields, IsSide, IsLeastGap, lesser, Look, look, IsHeldTuple, IsPresentTuple, IsHeldTwoHop, IsPresentTwoHop, IsLeastOf, IsNetwork, IsLinkKey, if_far, key_by, IsJoinedPeer, IsTwoHopAt, IsHeldBy, IsGivenBy, IsKeyBy, IsKeyOf, IsKeyOfSome, IsTwoHopKey, same_some, place_of as place_in}
use Rattle.mesh_atoms.specs.declared.tuples.Link.{Link}
use Rattle.mesh_atoms.specs.declared.tuples.Neighbour.{Neighbour}
use Rattle.mesh_atoms.specs.declared.tuples.TwoHop.{TwoHop}
use Rattle.mesh_atoms.specs.Live.{is_symmetric_at, is_symmetric_entry}
use Rattle.mesh_machine.specs.declared.said.Said.{Said}
use Rattle.mesh_machine.specs.Said.{IsSaidOf}
use Rattle.mesh_settled.proofs.GapsLemmas.JointLemmas.{same_state}
use Rattle.mesh_settled.proofs.GapsLemmas.Leasts.{least_as, least_all, least_lesser}
use Rattle.mesh_settled.proofs.GapsLemmas.LinkLemmas.{one_end}
use Rattle.mesh_settled.proofs.GapsLemmas.Sides.{all_self, held_in}

pub held_two_hop : (p : State) (i : ℕ) (key : TwoHopKey) → HasDistinctKeys two_hop_eq (base_of p.bases.neighbourhood.two_hops i) →
    IsSide (IsHeldTwoHop p i key) (option_map two_hop_fields (option_map (λ e. e.0) (find two_hop_eq (base_of p.bases.neighbourhood.two_hops i) key)))
held_two_hop p i key distinct = held_in (λ t. t) two_hop_fields (λ t. HasTwoHop p i key t) _ (λ t. looks_up_two_hops p i key t distinct)

module _ (s : Scenario) (graph : RadioGraph) (states : List State) (now x : ℕ) (p : State) (net : IsNetwork s graph states now) where
  module _ (i y j : ℕ) (q : State) (key : TwoHopKey) (end : IsJoinedPeer s states x i y j q key.link.addr) where
    -- each tuple of the key is by this end
    by_end : (gs : List Field) (w : IsPresentTwoHop (look s states now x p) i key gs) → IsTwoHopBy p q j now key w.5
    by_end gs (z, k, r, there, back, t, at, joins, by, same) =
        let ends = (sound_scenario s).addresses z y k j r.settings q.settings key.link.addr (net.routers.settings z r at) (net.routers.settings y q end.at) by.link.0 end.least.0 in
        let r_is : r ≡ q = same_state (subst (λ (n : ℕ). At states n r) ends.0 at) end.at in
        rw (← r_is, ← ends.1) by

  module _ (i y j : ℕ) (q : State) (key : TwoHopKey) (end : IsJoinedPeer s states x i y j q key.link.addr) (said : Said) (is_said : IsSaidOf q j now key.addr said) where
    abbrev l : Look
    l = look s states now x p

    abbrev tuple : TwoHop
    tuple = record { metric_in = said.metric_in; metric_out = said.metric_out }

    alike : (t : TwoHop) → IsTwoHopBy p q j now key t → t ≡ tuple
    alike t by =
        let m = (is_said.metric_in t.metric_in).0 by.metric_in in
        let n = (is_said.metric_out t.metric_out).0 by.metric_out in
        λ d. record { metric_in = m d; metric_out = n d }

    given_by : (b c : Bool) → said.symmetric ≡ true → b ≡ false → c ≡ false → IsTrue b ↔ HasAddress p.settings key.addr → IsTrue c ↔ HasAddress q.settings key.addr → IsTwoHopBy p q j now key tuple
    given_by b c shown mine theirs is_mine is_theirs = record {
      link = end.least;
      shown = is_said.symmetric.0 shown;
      not_mine = λ h. false≢true (sym mine ∙ is_mine.1 h);
      not_theirs = λ h. false≢true (sym theirs ∙ is_theirs.1 h);
      metric_in = (is_said.metric_in said.metric_in).1 refl;
      metric_out = (is_said.metric_out said.metric_out).1 refl;
    }

    pub given_two_hop : (mine theirs : Bool) → IsTrue mine ↔ HasAddress p.settings key.addr → IsTrue theirs ↔ HasAddress q.settings key.addr →
        IsSide (IsPresentTwoHop l i key) (option_map two_hop_fields (if_far said mine theirs))
    given_two_hop mine theirs is_mine is_theirs = by_case said.symmetric mine theirs refl is_mine is_theirs
      where
        by_case : (a b c : Bool) → said.symmetric ≡ a → IsTrue b ↔ HasAddress p.settings key.addr → IsTrue c ↔ HasAddress q.settings key.addr →
            IsSide (IsPresentTwoHop l i key) (option_map two_hop_fields (cond (a && (not b && not c)) (Some tuple) None))
        by_case false b c shown mine theirs = λ gs w. let by = by_end i y j q key end gs w in false≢true (sym shown ∙ is_said.symmetric.1 by.shown)
        by_case true true c shown mine theirs = λ gs w. (by_end i y j q key end gs w).not_mine (mine.0 refl)
        by_case true false true shown mine theirs = λ gs w. (by_end i y j q key end gs w).not_theirs (theirs.0 refl)
        by_case true false false shown mine theirs = (
          (y, j, q, end.there, end.back, tuple, end.at, end.joins, given_by false false shown refl refl mine theirs, refl),
          λ gs w.
              let same : w.5 ≡ tuple = alike w.5 (by_end i y j q key end gs w) in
              subst (λ (hs : List Field). AllSame hs (two_hop_fields tuple)) (sym (w.9 ∙ ap two_hop_fields same)) (all_self (two_hop_fields tuple)),
        )

-- The keys that are looked at

pub held_here : (l : Look) (p : State) (i : ℕ) (link : Addr4) (place : ℕ) (key : TwoHopKey) (e : TwoHop × ℕ) (f : Option Found) →
    slice_get (base_of p.bases.neighbourhood.two_hops i) place ≡ Some (key, e) → key.link.addr.0 ≡ link.0 → IsLeastGap l (λ k. k ≡ key_by i link key.addr) f → IsLeastGap l (IsTwoHopAt p i link place) f
held_here l p i link place key e f at same least =
    let link_is : key.link.addr ≡ link = ap (λ (n : ℕ). let r : Addr4 = record { 0 = n } in r) same in
    let key_is : key ≡ record { link = record { addr = link }; addr = key.addr } = ap (λ (b : Addr4). let r : TwoHopKey = record { link = record { addr = b }; addr = key.addr } in r) link_is in
    least_as l (λ k. k ≡ key_by i link key.addr) (IsTwoHopAt p i link place)
    (λ k is. (key.addr, e, at ∙ ap (λ (t : TwoHopKey). Some (t, e)) key_is, is))
    (λ k w. w.3 ∙ ap (λ (x : TwoHopKey × (TwoHop × ℕ)). key_by i link x.0.addr) (same_some w.2 at)) f least

module _ (s : Scenario) (graph : RadioGraph) (states : List State) (now x : ℕ) (p : State) (net : IsNetwork s graph states now) (i y j : ℕ) (q : State) (link : Addr4) (end : IsJoinedPeer s states x i y j q link) where
  abbrev seen : Look
  seen = look s states now x p

  abbrev IsTried : GapKey → Type 0
  IsTried k = IsHeldBy p i link k ⊎ IsGivenBy i link q k

  tried_in_kind : (k : GapKey) → IsTried k → IsKeyBy i link k
  tried_in_kind k w = elim w [ inl h ↦ (h.2.0, h.2.3) | inr g ↦ (g.2.3.2.0, g.2.3.2.2) ]

  held_tried : (k : GapKey) (fs : List Field) → IsKeyBy i link k → IsHeldTuple seen k fs → IsTried k
  held_tried k fs (a, same) holds =
      let key : TwoHopKey = record { link = record { addr = link }; addr = a } in
      let h : IsHeldTwoHop p i key fs = subst (λ (j : GapKey). IsHeldTuple seen j fs) same holds in
      let (base, is, has) = h.1 in
      let w = place_in base (key, (h.0, has.0)) has.1 in
      let base_is : base_of p.bases.neighbourhood.two_hops i ≡ base = get_or_from_slice_get p.bases.neighbourhood.two_hops i base [] is in
      inl (w.0, rw base_is w.1, (a, (h.0, has.0), rw base_is w.2, same))

  -- an address that is shown SYMMETRIC is a neighbour's
  near_of : (a : Addr4) → SaysSymmetric q j now a → (o : Addr4) × (n : Neighbour) × Has q.bases.neighbourhood.neighbours o n × Contains n.addrs a
  near_of a shown =
      let sound = (net.sound y q end.at).neighbourhood in
      elim shown [
        | inl by_link ↦
            let found = (looks_up_links q j by_link.1.0 by_link.0 (sound.distinct_links j)).0 by_link.1.1 in
            let (o, n, u, is, all) = sound.owner j by_link.1.0 by_link.0 found.0 found.1 in
            (o, n, (looks_up_neighbours q o n sound.distinct_neighbours).1 (u, is), all a by_link.1.2)
        | inr by_near ↦ (by_near.0.0, by_near.0.1, by_near.0.2.0.0, by_near.0.2.1)
      ]

  given_tried : (k : GapKey) (gs : List Field) → IsKeyBy i link k → IsPresentTuple seen k gs → IsTried k
  given_tried k gs (a, same) gives =
      let key : TwoHopKey = record { link = record { addr = link }; addr = a } in
      let g : IsPresentTwoHop seen i key gs = subst (λ (j : GapKey). IsPresentTuple seen j gs) same gives in
      let by = by_end s graph states now x p net i y j q key end gs g in
      let (o, n, has, of_it) = near_of a by.shown in
      let at = place_in q.bases.neighbourhood.neighbours (o, (n, has.0)) has.1 in
      let place = place_in n.addrs a of_it in
      inr (at.0, at.1, (o, (n, has.0), at.2, (place.0, place.1, (a, place.2, same))))

  pub all_by : (f g : Option Found) → IsLeastGap seen (IsHeldBy p i link) f → IsLeastGap seen (IsGivenBy i link q) g → IsLeastGap seen (IsKeyBy i link) (lesser f g)
  all_by f g held given =
      least_all seen IsTried (IsKeyBy i link) (lesser f g) tried_in_kind held_tried given_tried (least_lesser seen (IsHeldBy p i link) (IsGivenBy i link q) f g held given)

pub end_by : (s : Scenario) (graph : RadioGraph) (states : List State) (now x : ℕ) → IsNetwork s graph states now → (pair : Pair) → Contains graph.pairs pair → pair.from ≡ x →
    (q : State) → At states pair.to q → (link : Addr4) → IsLeastAddress q.settings pair.to_iface link → IsJoinedPeer s states x pair.from_iface pair.to pair.to_iface q link
end_by s graph states now x net pair there from q at link least =
    let w = (net.graph.pairs pair).0 there in
    record { at = at; there = pair.metric; back = w.0; joins = rw (← from) w.1; least = least }

pub key_of : (l : Look) (states : List State) (x : ℕ) (pair : Pair) (link : Addr4) (f : Option Found) → pair.from ≡ x → IsLeastOf states pair.to pair.to_iface link →
    IsLeastGap l (IsKeyBy pair.from_iface link) f → IsLeastGap l (IsKeyOf states x pair) f
key_of l states x pair link f from least by =
    least_as l (IsKeyBy pair.from_iface link) (IsKeyOf states x pair) (λ k w. (from, link, least, w))
    (λ k w. subst (λ (b : Addr4). IsKeyBy pair.from_iface b k) (one_end states pair.to pair.to_iface w.1 link w.2 least) w.3) f by

module _ (s : Scenario) (graph : RadioGraph) (states : List State) (now x : ℕ) (p : State) (net : IsNetwork s graph states now) (at : At states x p) where
  abbrev here : Look
  here = look s states now x p

  module _ (links : IsLeastGap here IsLinkKey None) where
    abbrev IsKey : GapKey → Type 0
    IsKey k = IsKeyOfSome states x graph.pairs k

    in_kind : (k : GapKey) → IsKey k → IsTwoHopKey k
    in_kind k w = let (pair, is, by) = w.2 in (pair.from_iface, record { link = record { addr = by.1 }; addr = by.3.0 }, by.3.1)

    -- each end is that of a pair
    by_pair : (k : GapKey) (i y j : ℕ) (q : State) (there back : Metric) (key : TwoHopKey) → k ≡ Of_two_hop i key → At states y q → Joins s x i y j there back → IsLeastAddress q.settings j key.link.addr → IsKey k
    by_pair k i y j q there back key same at_y joins least =
        let pair : Pair = record { from = x; from_iface = i; to = y; to_iface = j; metric = there } in
        let w = place_in graph.pairs pair ((net.graph.pairs pair).1 (back, joins)) in
        (w.0, w.1, (pair, w.2, (refl, key.link.addr, (q, at_y, least), (key.addr, same))))

    given_key : (k : GapKey) (gs : List Field) → IsTwoHopKey k → IsPresentTuple here k gs → IsKey k
    given_key k gs (i, key, same) gives =
        let g : IsPresentTwoHop here i key gs = subst (λ (j : GapKey). IsPresentTuple here j gs) same gives in
        by_pair k i g.0 g.1 g.2 g.3 g.4 key same g.6 g.7 g.8.link

    symmetric_entry : (o : Option (Link × ℕ)) → is_symmetric_entry now o ≡ true → (e : Link × ℕ) × (o ≡ Some e) × (is_symmetric e.0 now ≡ true)
    symmetric_entry None e = absurd (false≢true e)
    symmetric_entry (Some f) e = (f, refl, e)

    held_key : (k : GapKey) (fs : List Field) → IsTwoHopKey k → IsHeldTuple here k fs → IsKey k
    held_key k fs (i, key, same) holds =
        let h : IsHeldTwoHop p i key fs = subst (λ (j : GapKey). IsHeldTuple here j fs) same holds in
        let sound = (net.sound x p at).neighbourhood in
        let found = (looks_up_two_hops p i key h.0 ((sound.two_hops i).distinct)).0 h.1 in
        let symmetric = subst (λ (m : ℕ). is_symmetric_at p.bases.neighbourhood m i key.link ≡ true) (net.moment x p at) (sound.two_hop i key (h.0, found.0) found.1) in
        let (e, is, yes_symmetric) = symmetric_entry (link_at p.bases.neighbourhood i key.link) symmetric in
        let has = (looks_up_links p i key.link e.0 (sound.distinct_links i)).1 (e.1, is) in
        let settled = links (Of_link i key.link) (i, key.link, refl) in
        elim (settled.held (link_fields e.0) (e.0, has, (tests_symmetric e.0 now).0 yes_symmetric, refl)) [
          | inl none ↦ absurd none
          | inr given ↦ let w = given.1 in by_pair k i w.0 w.1 w.2 w.3 w.4 key same w.6 w.7 w.8.keyed
        ]

    pub all_two_hops : (f : Option Found) → IsLeastGap here (IsKeyOfSome states x graph.pairs) f → IsLeastGap here IsTwoHopKey f
    all_two_hops f least = least_all here IsKey IsTwoHopKey f in_kind held_key given_key least
