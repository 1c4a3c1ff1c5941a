-- The parts of the taking of a HELLO, interface by interface.
use Rattle.mesh_nhdp.proofs.Common.{common_steps, ◌≡◌, ℕ, ◌+◌, ◌<◌, ◌≤◌, ◌≢◌, ◌⊎◌, ◌↔◌, inl, inr, refl, ◌∙◌, ap, arith, List, [], length, Contains, None, true, false, nat_eq, IsDistinct, get_or_past, cases_eq, eq-eqb, Addr4, Hello, LinkKey, Link, TwoHopKey, TwoHop, Neighbour, Lost, RouterSettings, Base, HasDistinctKeys, find, base_of, link_eq, two_hop_eq, Neighbourhood, rule_of, Told, Tells, AfterHello, IsTheirs, IsFault, SoundNeighbourhood, EndsOutside, Replaces, key_at, DropsEnded, TellsTwoHops, is_symmetric_in, FollowsLinksOf, HearsAt, contains_at}
use Rattle.mesh_nhdp.proofs.Bases.{base_cases}
use Rattle.mesh_nhdp.proofs.Touched.{IsTheirSymmetric}
use Rattle.mesh_nhdp.proofs.Whole.{Starts, hello_by_calls}

-- where there is no interface, nothing ends and nothing is dropped
ends_none : (theirs listed : List Addr4) → EndsOutside theirs listed [] []
ends_none theirs listed key = refl

module _ (settings : RouterSettings) (now i : ℕ) (sender : Addr4) (told : Told) (hello : Hello) (old : Neighbourhood) (T : Tells settings i sender hello told) (fault : IsFault settings sender hello None)
    (lasts : 0 < told.shown.validity) (S : SoundNeighbourhood settings now old) (is_interface : i < length settings.interfaces)
    (links : List (Base LinkKey Link)) (mids two_hops : List (Base TwoHopKey TwoHop)) (replaced neighbours : Base Addr4 Neighbour) (losts : Base Addr4 Lost) (started : Base TwoHopKey TwoHop)
    (theirs before : List Addr4) (keys : List LinkKey) (until : ℕ) (theirs_are : (a : Addr4) → Contains theirs a ↔ IsTheirs old told a) (before_is : (a : Addr4) → Contains before a ↔ IsTheirSymmetric old told a)
    (keys_are : (a : Addr4) → Contains theirs a ⊎ Contains told.listed a → Contains keys (key_at a))
    (same : length links ≡ length old.links) (same_mids : length mids ≡ length old.two_hops) (same_two_hops : length two_hops ≡ length mids)
    (each : (j : ℕ) → j < length old.links → HearsAt (rule_of settings i) told.shown told.least theirs told.listed keys settings.times.link_hold now (nat_eq j i) (base_of old.links j) (base_of links j) (base_of old.two_hops j) (base_of mids j))
    (elsewhere : (j : ℕ) → j ≢ i → base_of two_hops j ≡ base_of mids j) (distinct_here : HasDistinctKeys two_hop_eq (base_of two_hops i))
    (starts : Starts old i told (base_of mids i) started)
    (rows : is_symmetric_in (base_of links i) now told.least ≡ true → TellsTwoHops settings told hello told.least (now + told.shown.validity) started (base_of two_hops i))
    (no_rows : is_symmetric_in (base_of links i) now told.least ≡ false → base_of two_hops i ≡ started)
    (replaces : Replaces told.originator told.listed told.willing told.routing until old.neighbours replaced)
    (F : FollowsLinksOf now told.originator told.listed before (now + settings.times.neighbour_hold) (record { links = links; two_hops = two_hops; neighbours = replaced; losts = old.losts }) (record { links = links; two_hops = two_hops; neighbours = neighbours; losts = losts })) where
  is_link_interface : i < length old.links
  is_link_interface = let counts = S.interfaces in omega (arith, counts, is_interface)

  links_distinct : (j : ℕ) → HasDistinctKeys link_eq (base_of links j)
  unfolding IsDistinct
  links_distinct j = grind (arith, common_steps, base_cases)

  mids_distinct : (j : ℕ) → HasDistinctKeys two_hop_eq (base_of mids j)
  unfolding IsDistinct
  mids_distinct j = grind (arith, common_steps, base_cases)

  two_hops_distinct : (j : ℕ) → HasDistinctKeys two_hop_eq (base_of two_hops j)
  two_hops_distinct j = grind (arith, common_steps, cases_eq, mids_distinct)

  ends : (j : ℕ) → j ≢ i → EndsOutside theirs told.listed (base_of old.links j) (base_of links j)
  ends j other = grind (arith, common_steps, base_cases, get_or_past, ends_none)

  no_drops : (j : ℕ) → length old.links ≤ j → DropsEnded keys (base_of links j) now (base_of old.two_hops j) (base_of mids j)
  no_drops j beyond key = grind (arith, common_steps, get_or_past)

  drops : (j : ℕ) → DropsEnded keys (base_of links j) now (base_of old.two_hops j) (base_of mids j)
  drops j = elim (base_cases old.links j) [ inl there ↦ (each j there.0).two_hops | inr none ↦ no_drops j none.0 ]

  pub hears_is : AfterHello settings now i told hello old (record { links = links; two_hops = two_hops; neighbours = neighbours; losts = losts })
  hears_is = hello_by_calls settings now i told hello old (record { links = links; two_hops = two_hops; neighbours = neighbours; losts = losts })
      (λ a has. (T.listed.1 a).1 (inl ((T.sending.1 a).0 has))) ((T.listed.1 told.least.addr).1 (inl ((T.sending.1 told.least.addr).0 (contains_at told.shown.sending 0 told.least.addr T.least)))) S (record {
        tables = record { links = links_distinct; two_hops = two_hops_distinct; neighbours = F.distinct; losts = F.distinct_losts };
        interfaces = same;
        two_hop_interfaces = same_two_hops ∙ same_mids;
        theirs = theirs;
        theirs_are = theirs_are;
        ends = ends;
        hears = (each i is_link_interface).hears (eq-eqb i i refl);
        keys = keys;
        keys_are = keys_are;
        mids = λ j. base_of mids j;
        drops = drops;
        elsewhere = λ j other key. ap (λ (b : Base TwoHopKey TwoHop). find two_hop_eq b key) (elsewhere j other);
        started = started;
        starts = starts;
        rows = rows;
        no_rows = λ not key. ap (λ (b : Base TwoHopKey TwoHop). find two_hop_eq b key) (no_rows not);
        until = until;
        replaced = replaced;
        replaces = replaces;
        before = before;
        before_is = before_is;
        follows = F;
      })
