-- A HELLO keeps what holds of a neighbourhood.
use Rattle.mesh_nhdp.proofs.Common.{common_steps, ◌≡◌, ℕ, ◌+◌, ◌<◌, ◌≤◌, ◌≢◌, ◌⊎◌, inl, inr, refl, sym, ◌∙◌, ap, subst, arith, List, length, Contains, slice_get, Option, Some, None, IsTrue, ◌++◌, ◌↔◌, length-append, Bool, true, false, cond, nat_lt, not, ◌&&◌, lt-ltb, cases_eq, ltb-true, Addr4, LinkKey, TwoHopKey, Link, TwoHop, Neighbour, Lost, Hello, Shown, HelloRow, This, Other, LinkStatus, RouterSettings, Base, find, base_of, two_hop_eq, Neighbourhood, is_symmetric, link_at, two_hop_at, neighbour_at, lost_at, HasAddress, KeepsNeighbour, is_symmetric_at, IsAscending, Told, Tells, IsListed, LooksAt, tells_symmetric, two_hop_of, AfterHello, LinkKeptOrMade, Stood, Made, renewed, by_status, GoesOn, Matches, announced, BecomesOther, Joins, Remains, StoodOn, Same_link, New_link, TellsTwoHop, By_row, By_none, IsHeld, IsFault, Local, Originator, Sender, IsFullOfAddresses, FitsTwoHops, SoundNeighbourhood, IsSoundLink, IsSoundNeighbour, two_hop_equiv, Admit, admit_on, rule_of, same_key, contains_at, same_some, cond_none_some, none_not, same_address, contains_or_not, kept_from}
use Rattle.mesh_nhdp.proofs.Admitted.{FollowsQuality, IsAlike, made_follows, follows_alike, follows_if_stays, admit_stays, renewed_alike}
use Rattle.mesh_nhdp.proofs.Limits.{no_more, found_left, found_right, entries_at, length_entries, found_entry}
use Rattle.mesh_nhdp.proofs.LiveSound.{is_trimmed, restores_from, restores_to, settles_back, settles_from}

-- The link that the HELLO renews

cond_later : (b : Bool) (now x y : ℕ) → now < x → now < y → now < cond b x y
cond_later b now x y p q = grind (arith, common_steps)

status_later : (shown : Shown) (hold now : ℕ) (status : Option LinkStatus) (e : Link × ℕ) → 0 < hold → now < e.1 → now < (by_status shown hold now status e).1
status_later shown hold now status e holds later = grind (arith, common_steps, cond_later)

-- what the renewed link is
record IsRenewed (shown : Shown) (now : ℕ) (e r : Link × ℕ) : Type 0 where
  pub alike : IsAlike e.0 r.0
  pub later : now < e.1 → now < r.1
  pub link_out : is_symmetric r.0 now ≡ false → r.0.link_out ≡ None
  pub selector : is_symmetric r.0 now ≡ false → r.0.selector ≡ false

is_renewed : (shown : Shown) (hold now : ℕ) (e : Link × ℕ) → 0 < hold → IsRenewed shown now e (renewed shown hold now e)
is_renewed shown hold now e holds = grind (arith, common_steps, is_trimmed, renewed_alike, status_later)

begins_addrs : {rule : Admit} {shown : Shown} {now : ℕ} {old : Option (Link × ℕ)} {start : Link × ℕ} → LinkKeptOrMade rule shown now old start → start.0.addrs ≡ shown.sending
begins_addrs h0 = grind (arith, common_steps)

module _ (settings : RouterSettings) (now i : ℕ) (sender : Addr4) (hello : Hello) (told : Told) (old new : Neighbourhood) (fault : IsFault settings sender hello None) (T : Tells settings i sender hello told)
    (lasts : 0 < told.shown.validity) (holds : 0 < settings.times.link_hold) (keeps : 0 < settings.times.neighbour_hold)
    (S : SoundNeighbourhood settings now old) (A : AfterHello settings now i told hello old new) where
  -- a link after the HELLO: the one that it renews, or one that goes on
  pub data IsLink (j : ℕ) (key : LinkKey) (e : Link × ℕ) : Type 0 where
    One : j ≡ i → key ≡ told.least → e.0.addrs ≡ told.shown.sending → now < e.1 → (is_symmetric e.0 now ≡ false → e.0.link_out ≡ None) →
        (is_symmetric e.0 now ≡ false → e.0.selector ≡ false) → FollowsQuality (rule_of settings j) now e.0 → IsLink j key e
    Goes : ((j ≢ i) ⊎ (key ≢ told.least)) → GoesOn old told i j e.0 → link_at old j key ≡ Some e → IsLink j key e

  the_link : (e : Link × ℕ) → link_at new i told.least ≡ Some e → IsLink i told.least e
  the_link e is =
      let (start, begins, stands) = A.link in
      let r = is_renewed told.shown settings.times.link_hold now start holds in
      let same : renewed told.shown settings.times.link_hold now start ≡ e = same_some stands is in
      subst (λ (x : Link × ℕ). IsLink i told.least x) same
      (One refl refl (r.alike.addrs ∙ begins_addrs begins) (r.later (begins_later begins)) r.link_out r.selector
      (follows_alike (rule_of settings i) now start.0 (renewed told.shown settings.times.link_hold now start).0 r.alike (begins_follows begins)))
    where
      begins_follows : {start : Link × ℕ} → LinkKeptOrMade (rule_of settings i) told.shown now (link_at old i told.least) start → FollowsQuality (rule_of settings i) now start.0
      begins_follows (Stood e at same) = follows_if_stays settings i now (link_at old i told.least) e (S.by_quality i told.least) at
      begins_follows (Made none) = made_follows (rule_of settings i) told.shown now

      begins_later : {start : Link × ℕ} → LinkKeptOrMade (rule_of settings i) told.shown now (link_at old i told.least) start → now < start.1
      begins_later (Stood e at same) = ltb-true now e.1 (S.fresh_links i told.least e.0 e.1 at)
      begins_later (Made none) = omega (arith, lasts)

  other_link : (j : ℕ) (key : LinkKey) (e : Link × ℕ) → ((j ≢ i) ⊎ (key ≢ told.least)) → link_at new j key ≡ Some e → IsLink j key e
  other_link j key e other is = grind (arith, common_steps, kept_from)

  pub link_is : (j : ℕ) (key : LinkKey) (e : Link × ℕ) → link_at new j key ≡ Some e → IsLink j key e
  link_is j key e is = elim (cases_eq j i) [
    | inl same ↦ elim (same_key key told.least) [
      | inl at ↦
          let there : link_at new i told.least ≡ Some e = subst (λ (k : LinkKey). link_at new i k ≡ Some e) at (subst (λ (n : ℕ). link_at new n key ≡ Some e) same is) in
          subst (λ (n : ℕ). IsLink n key e) (sym same) (subst (λ (k : LinkKey). IsLink i k e) (sym at) (the_link e there))
      | inr apart ↦ other_link j key e (inr apart) is
    ]
    | inr apart ↦ other_link j key e (inl apart) is
  ]

  listed_if_sending : (a : Addr4) → Contains told.shown.sending a → Contains told.listed a
  listed_if_sending a has = (T.listed.1 a).1 (inl ((T.sending.1 a).0 has))

  sound_link : (j : ℕ) (key : LinkKey) (link : Link) (until : ℕ) → link_at new j key ≡ Some (link, until) → IsSoundLink now key link
  sound_link j key link until is = by_case (link_is j key (link, until) is)
    where
      by_case : IsLink j key (link, until) → IsSoundLink now key link
      by_case (One same at addrs later out selector follows) = record {
        least = subst (λ (xs : List Addr4). slice_get xs 0 ≡ Some key.addr) (sym addrs) (subst (λ (k : LinkKey). slice_get told.shown.sending 0 ≡ Some k.addr) (sym at) T.least);
        ascending = subst (λ (xs : List Addr4). IsAscending xs) (sym addrs) T.sending.0;
        link_out = out;
        selector = selector;
      }
      by_case (Goes other goes was) = S.link j key link until was

  fresh_link : (j : ℕ) (key : LinkKey) (link : Link) (until : ℕ) → link_at new j key ≡ Some (link, until) → nat_lt now until ≡ true
  fresh_link j key link until is = by_case (link_is j key (link, until) is)
    where
      by_case : IsLink j key (link, until) → nat_lt now until ≡ true
      by_case (One same at addrs later out selector follows) = lt-ltb now until later
      by_case (Goes other goes was) = S.fresh_links j key link until was

  by_quality : (j : ℕ) (key : LinkKey) → admit_on settings j now (link_at new j key) ≡ link_at new j key
  by_quality j key = admit_stays settings j now (link_at new j key) (λ e is. by_case e (link_is j key e is))
    where
      by_case : (e : Link × ℕ) → IsLink j key e → FollowsQuality (rule_of settings j) now e.0
      by_case e (One same at addrs later out selector follows) = follows
      by_case e (Goes other goes was) = follows_if_stays settings j now (link_at old j key) e (S.by_quality j key) was

  -- a link that goes on and shares an address with the sending list is the one
  meets_one : (key : LinkKey) (e : Link × ℕ) (a : Addr4) → GoesOn old told i i e.0 → link_at old i key ≡ Some e → Contains e.0.addrs a → Contains told.shown.sending a → key ≡ told.least
  meets_one key e a goes was has sends = elim (goes.apart refl) [
    | inl same ↦
        let least : slice_get told.shown.sending 0 ≡ Some key.addr = subst (λ (xs : List Addr4). slice_get xs 0 ≡ Some key.addr) same (S.link i key e.0 e.1 was).least in
        let addr : key.addr ≡ told.least.addr = same_some least T.least in
        ap (λ (b : Addr4). let k : LinkKey = record { addr = b } in k) addr
    | inr none ↦ absurd (none (a, has, sends))
  ]

  links_apart : (j : ℕ) (k l : LinkKey) (e f : Link × ℕ) (a : Addr4) → link_at new j k ≡ Some e → link_at new j l ≡ Some f →
      Contains e.0.addrs a → Contains f.0.addrs a → k ≡ l
  links_apart j k l e f a at to has as_well = by_case (link_is j k e at) (link_is j l f to)
    where
      by_case : IsLink j k e → IsLink j l f → k ≡ l
      by_case (One same one addrs _ _ _ _) (One _ one_too _ _ _ _ _) = one ∙ sym one_too
      by_case (One same one addrs _ _ _ _) (Goes other goes was) =
          one ∙ sym (meets_one l f a (subst (λ (n : ℕ). GoesOn old told i n f.0) same goes) (subst (λ (n : ℕ). link_at old n l ≡ Some f) same was) as_well
          (subst (λ (xs : List Addr4). Contains xs a) addrs has))
      by_case (Goes other goes was) (One same one addrs _ _ _ _) =
          meets_one k e a (subst (λ (n : ℕ). GoesOn old told i n e.0) same goes) (subst (λ (n : ℕ). link_at old n k ≡ Some e) same was) has
          (subst (λ (xs : List Addr4). Contains xs a) addrs as_well) ∙ sym one
      by_case (Goes _ _ was) (Goes _ _ was_too) = S.links_apart j k l e f a was was_too has as_well

  -- Neighbours

  -- a neighbour after the HELLO: the one that it announces, or one that doesn't match
  pub data IsNeighbour (o : Addr4) (f : Neighbour × ℕ) : Type 0 where
    Announced : o ≡ told.originator → KeepsNeighbour new now (announced told.listed told.willing told.routing) f.0 f.1 → IsNeighbour o f
    Another : (e : Neighbour × ℕ) → o ≢ told.originator → neighbour_at old o ≡ Some e → (Matches told.originator told.listed o e.0 → ⊥) → KeepsNeighbour new now e.0 f.0 f.1 → IsNeighbour o f

  pub neighbour_is : (o : Addr4) (f : Neighbour × ℕ) → neighbour_at new o ≡ Some f → IsNeighbour o f
  neighbour_is o f is = elim (same_address o told.originator) [
    | inl same ↦
        let (e, at, r) = restores_from new now (Some (announced told.listed told.willing told.routing, 0)) (neighbour_at new told.originator) f A.neighbour (subst (λ (a : Addr4). neighbour_at new a ≡ Some f) same is) in
        Announced same (subst (λ (x : Neighbour × ℕ). KeepsNeighbour new now x.0 f.0 f.1) (same_some at refl) r)
    | inr other ↦ by_case other (A.other_neighbours o other)
  ]
    where
      by_case : o ≢ told.originator → BecomesOther new now told o (neighbour_at old o) (neighbour_at new o) → IsNeighbour o f
      by_case other (Joins e at matches none) = none_not none is
      by_case other (Remains not r) =
          let (e, at, renews) = restores_from new now (neighbour_at old o) (neighbour_at new o) f r is in
          Another e other at (not e at) renews

  -- no listed address and not the originator is the router's own
  listed_not_mine : (a : Addr4) → Contains told.listed a → HasAddress settings a → ⊥
  listed_not_mine a has mine = by_case ((T.listed.1 a).0 has)
    where
      by_case : IsListed hello sender a → ⊥
      by_case (inl (inl shows)) = fault.0 (Local a This mine shows)
      by_case (inl (inr sends)) = fault.0 (Sender (subst (λ (b : Addr4). HasAddress settings b) sends.0 mine) sends.1)
      by_case (inr shows) = fault.0 (Local a Other mine shows)

  originator_not_mine : HasAddress settings told.originator → ⊥
  originator_not_mine mine = elim T.originator [
    | inl is ↦ fault.0 (Originator told.originator mine is)
    | inr none ↦ listed_not_mine told.originator none.1 mine
  ]

  and_right : (a b : Bool) → IsTrue (a && b) → IsTrue b
  and_right a b h = grind (arith, common_steps)

  sound_neighbour : (o : Addr4) (n : Neighbour) (until : ℕ) → neighbour_at new o ≡ Some (n, until) → IsSoundNeighbour settings new now o n until
  sound_neighbour o n until is = by_case (neighbour_is o (n, until) is)
    where
      by_case : IsNeighbour o (n, until) → IsSoundNeighbour settings new now o n until
      by_case (Announced same r) = record {
        ascending = subst (λ (xs : List Addr4). IsAscending xs) (sym r.addrs) T.listed.0;
        by_links = r.by_links;
        selector = λ h. and_right told.routing n.symmetric (subst (λ (b : Bool). IsTrue b) r.selector h);
        not_mine = λ mine. originator_not_mine (subst (λ (a : Addr4). HasAddress settings a) same mine);
        none_mine = λ a has mine. listed_not_mine a (subst (λ (xs : List Addr4). Contains xs a) r.addrs has) mine;
      }
      by_case (Another e other at not r) =
          let s = S.neighbour o e.0 e.1 at in
          record {
            ascending = subst (λ (xs : List Addr4). IsAscending xs) (sym r.addrs) s.ascending;
            by_links = r.by_links;
            selector = λ h. and_right e.0.selector n.symmetric (subst (λ (b : Bool). IsTrue b) r.selector h);
            not_mine = s.not_mine;
            none_mine = λ a has mine. s.none_mine a (subst (λ (xs : List Addr4). Contains xs a) r.addrs has) mine;
          }

  neighbours_apart : (o p : Addr4) (e f : Neighbour × ℕ) (a : Addr4) → neighbour_at new o ≡ Some e → neighbour_at new p ≡ Some f →
      Contains e.0.addrs a → Contains f.0.addrs a → o ≡ p
  neighbours_apart o p e f a at to has as_well = by_case (neighbour_is o e at) (neighbour_is p f to)
    where
      by_case : IsNeighbour o e → IsNeighbour p f → o ≡ p
      by_case (Announced same r) (Announced too t) = same ∙ sym too
      by_case (Announced same r) (Another g other was not t) =
          absurd (not (inr (a, subst (λ (xs : List Addr4). Contains xs a) t.addrs as_well, subst (λ (xs : List Addr4). Contains xs a) r.addrs has)))
      by_case (Another g other was not r) (Announced too t) =
          absurd (not (inr (a, subst (λ (xs : List Addr4). Contains xs a) r.addrs has, subst (λ (xs : List Addr4). Contains xs a) t.addrs as_well)))
      by_case (Another g other was not r) (Another h other_too was_too not_too t) =
          S.neighbours_apart o p g h a was was_too (subst (λ (xs : List Addr4). Contains xs a) r.addrs has) (subst (λ (xs : List Addr4). Contains xs a) t.addrs as_well)

  -- who owns a link
  IsOwned : Link → Type 0
  IsOwned link = (o : Addr4) × (n : Neighbour) × (u : ℕ) × (neighbour_at new o ≡ Some (n, u)) × ((a : Addr4) → Contains link.addrs a → Contains n.addrs a)

  -- a link of listed addresses is the announced neighbour's
  owned_by_announced : (j : ℕ) (key : LinkKey) (e : Link × ℕ) → link_at new j key ≡ Some e → Contains e.0.addrs key.addr →
      ((a : Addr4) → Contains e.0.addrs a → Contains told.listed a) → IsOwned e.0
  unfolding IsOwned
  owned_by_announced j key e is least within =
      let (g, stands, r) = restores_to new now (Some (announced told.listed told.willing told.routing, 0)) (neighbour_at new told.originator) (announced told.listed told.willing told.routing, 0) j key e A.neighbour refl (within key.addr least, is) in
      (told.originator, g.0, g.1, stands, λ a has. subst (λ (xs : List Addr4). Contains xs a) (sym r.addrs) (within a has))

  owner : (j : ℕ) (key : LinkKey) (link : Link) (until : ℕ) → link_at new j key ≡ Some (link, until) → IsOwned link
  unfolding IsOwned
  owner j key link until is = by_case (link_is j key (link, until) is)
    where
      has_least : Contains link.addrs key.addr
      has_least = contains_at link.addrs 0 key.addr (sound_link j key link until is).least

      -- a link of a matching neighbour goes on only with listed addresses
      by_matching : GoesOn old told i j link → (o : Addr4) (n : Neighbour) (u : ℕ) → neighbour_at old o ≡ Some (n, u) →
          ((a : Addr4) → Contains link.addrs a → Contains n.addrs a) → Matches told.originator told.listed o n → IsOwned link
      by_matching goes o n u at within matches = owned_by_announced j key (link, until) is has_least (λ a has. elim (contains_or_not told.listed a) [
        | inl listed ↦ listed
        | inr beyond ↦ absurd (goes.listed (key.addr, has_least, (o, n, u, at, matches, within key.addr has_least)) (a, has, beyond))
      ])

      by_other : GoesOn old told i j link → (o : Addr4) (n : Neighbour) (u : ℕ) → neighbour_at old o ≡ Some (n, u) →
          ((a : Addr4) → Contains link.addrs a → Contains n.addrs a) → BecomesOther new now told o (neighbour_at old o) (neighbour_at new o) → IsOwned link
      by_other goes o n u at within (Joins e was matches none) =
          by_matching goes o n u at within (subst (λ (x : Neighbour × ℕ). Matches told.originator told.listed o x.0) (same_some was at) matches)
      by_other goes o n u at within (Remains not r) =
          let (g, stands, renews) = restores_to new now (neighbour_at old o) (neighbour_at new o) (n, u) j key (link, until) r at (within key.addr has_least, is) in
          (o, g.0, g.1, stands, λ a has. subst (λ (xs : List Addr4). Contains xs a) (sym renews.addrs) (within a has))

      by_case : IsLink j key (link, until) → IsOwned link
      by_case (One same one addrs later out selector follows) =
          owned_by_announced j key (link, until) is has_least (λ a has. listed_if_sending a (subst (λ (xs : List Addr4). Contains xs a) addrs has))
      by_case (Goes other goes was) =
          let (o, n, u, at, within) = S.owner j key link until was in
          elim (same_address o told.originator) [
            | inl same ↦ by_matching goes o n u at within (inl same)
            | inr apart ↦ by_other goes o n u at within (A.other_neighbours o apart)
          ]

  fresh_neighbour : (o : Addr4) (n : Neighbour) (until : ℕ) → neighbour_at new o ≡ Some (n, until) → nat_lt now until ≡ true
  fresh_neighbour o n until is =
      let (j, key, link, has) = (sound_neighbour o n until is).by_links.latest in
      fresh_link j key link until has.1

  -- Lost addresses

  lost_not_mine : (a : Addr4) (e : Lost × ℕ) → lost_at new a ≡ Some e → HasAddress settings a → ⊥
  lost_not_mine a e is mine = elim (settles_from (A.losts a) is) [
    | inl gone ↦ let (o, n, until, at, _, has) = gone.0 in (S.neighbour o n until at).none_mine a has mine
    | inr stood ↦ S.lost_not_mine a e stood mine
  ]

  fresh_lost : (a : Addr4) (e : Lost) (until : ℕ) → lost_at new a ≡ Some (e, until) → nat_lt now until ≡ true
  fresh_lost a e until is = grind (arith, common_steps, settles_from)

  -- the addresses that are held were held, or the HELLO brings them
  held_is : (a : Addr4) → IsHeld new a → IsHeld old a ⊎ (Contains told.listed a ⊎ (a ≡ told.originator))
  held_is a (inl (f, is)) = by_case (neighbour_is a f is)
    where
      by_case : IsNeighbour a f → IsHeld old a ⊎ (Contains told.listed a ⊎ (a ≡ told.originator))
      by_case (Announced same r) = inr (inr same)
      by_case (Another e other at not r) = inl (inl (e, at))
  held_is a (inr (inl (o, n, until, is, has))) = by_case (neighbour_is o (n, until) is)
    where
      by_case : IsNeighbour o (n, until) → IsHeld old a ⊎ (Contains told.listed a ⊎ (a ≡ told.originator))
      by_case (Announced same r) = inr (inl (subst (λ (xs : List Addr4). Contains xs a) r.addrs has))
      by_case (Another e other at not r) = inl (inr (inl (o, e.0, e.1, at, subst (λ (xs : List Addr4). Contains xs a) r.addrs has)))
  held_is a (inr (inr (e, is))) = elim (settles_from (A.losts a) is) [
    | inl gone ↦ let (o, n, until, at, _, has) = gone.0 in inl (inr (inl (o, n, until, at, has)))
    | inr stood ↦ inl (inr (inr (e, stood)))
  ]

  -- 2-hop tuples

  pub data IsTwoHop (j : ℕ) (key : TwoHopKey) (t : TwoHop × ℕ) : Type 0 where
    Is_two_hop : is_symmetric_at new now j key.link ≡ true → nat_lt now t.1 ≡ true → IsTwoHop j key t

  row_later : (b : Bool) (two_hop : TwoHop) (t : TwoHop × ℕ) → cond b (Some (two_hop, now + told.shown.validity)) None ≡ Some t → nat_lt now t.1 ≡ true
  row_later b two_hop t is = grind (arith, common_steps, same_some, none_not)

  stood_later : (a : Addr4) (stood : Option (TwoHop × ℕ)) (t : TwoHop × ℕ) → StoodOn old i told a stood → stood ≡ Some t → nat_lt now t.1 ≡ true
  stood_later a stood t (Same_link e at same) is = (S.two_hops i).fresh (record { link = told.least; addr = a }) t.0 t.1 is
  stood_later a stood t (New_link none) is = none_not refl is

  the_two_hop : (a : Addr4) (t : TwoHop × ℕ) → two_hop_at new i (record { link = told.least; addr = a }) ≡ Some t → IsTwoHop i (record { link = told.least; addr = a }) t
  the_two_hop a t is = by_case (is_symmetric_at new now i told.least) refl
    where
      by_row : (stood : Option (TwoHop × ℕ)) → StoodOn old i told a stood →
          TellsTwoHop settings told hello (now + told.shown.validity) a stood (two_hop_at new i (record { link = told.least; addr = a })) → nat_lt now t.1 ≡ true
      by_row stood on (By_row row looks makes) = row_later (tells_symmetric row.link row.other) (two_hop_of row) t (sym makes ∙ is)
      by_row stood on (By_none none same) = stood_later a stood t on (sym same ∙ is)

      by_case : (b : Bool) → is_symmetric_at new now i told.least ≡ b → IsTwoHop i (record { link = told.least; addr = a }) t
      by_case true symmetric = let (stood, on, tells) = A.two_hops symmetric a in Is_two_hop symmetric (by_row stood on tells)
      by_case false none = none_not (A.no_two_hops none a) is

  other_two_hop : (j : ℕ) (key : TwoHopKey) (t : TwoHop × ℕ) → ((j ≢ i) ⊎ (key.link ≢ told.least)) → two_hop_at new j key ≡ Some t → IsTwoHop j key t
  other_two_hop j key t other is =
      let (symmetric, was) = cond_none_some (is_symmetric_at new now j key.link) (two_hop_at old j key) t (sym (A.other_two_hops j key other) ∙ is) in
      Is_two_hop symmetric ((S.two_hops j).fresh key t.0 t.1 was)

  pub two_hop_is : (j : ℕ) (key : TwoHopKey) (t : TwoHop × ℕ) → two_hop_at new j key ≡ Some t → IsTwoHop j key t
  two_hop_is j key t is = elim (cases_eq j i) [
    | inl same ↦ elim (same_key key.link told.least) [
      | inl at ↦
          let whole : key ≡ record { link = told.least; addr = key.addr } = ap (λ (l : LinkKey). let k : TwoHopKey = record { link = l; addr = key.addr } in k) at in
          let there : two_hop_at new i (record { link = told.least; addr = key.addr }) ≡ Some t =
          subst (λ (k : TwoHopKey). two_hop_at new i k ≡ Some t) whole (subst (λ (n : ℕ). two_hop_at new n key ≡ Some t) same is) in
          subst (λ (n : ℕ). IsTwoHop n key t) (sym same) (subst (λ (k : TwoHopKey). IsTwoHop i k t) (sym whole) (the_two_hop key.addr t there))
      | inr apart ↦ other_two_hop j key t (inr apart) is
    ]
    | inr apart ↦ other_two_hop j key t (inl apart) is
  ]

  is_symmetric_two_hop : (j : ℕ) (key : TwoHopKey) (t : TwoHop × ℕ) → IsTwoHop j key t → is_symmetric_at new now j key.link ≡ true
  is_symmetric_two_hop j key t (Is_two_hop symmetric later) = symmetric

  is_fresh_two_hop : (j : ℕ) (key : TwoHopKey) (t : TwoHop × ℕ) → IsTwoHop j key t → nat_lt now t.1 ≡ true
  is_fresh_two_hop j key t (Is_two_hop symmetric later) = later

  -- no more tuples than stood and rows make
  limit_elsewhere : (j : ℕ) → j ≢ i → length (base_of new.two_hops j) ≤ length (base_of old.two_hops j)
  limit_elsewhere j apart = no_more two_hop_equiv (base_of new.two_hops j) (base_of old.two_hops j) (A.tables.two_hops j)
      (λ key t is. (t, (cond_none_some (is_symmetric_at new now j key.link) (two_hop_at old j key) t (sym (A.other_two_hops j key (inl apart)) ∙ is)).1))

  nothing : TwoHop
  nothing = record { metric_in = None; metric_out = None }

  module _ (some : List Addr4) (are : (a : Addr4) → Contains some a ↔ ((row : HelloRow) × LooksAt settings told hello a row × IsTrue (tells_symmetric row.link row.other))) where
    room : Base TwoHopKey TwoHop
    room = base_of old.two_hops i ++ entries_at told.least nothing some

    row_says : (b : Bool) (two_hop : TwoHop) (t : TwoHop × ℕ) → cond b (Some (two_hop, now + told.shown.validity)) None ≡ Some t → IsTrue b
    row_says true two_hop t is = refl
    row_says false two_hop t is = none_not refl is

    in_room : (key : TwoHopKey) (t : TwoHop × ℕ) → two_hop_at new i key ≡ Some t → (f : TwoHop × ℕ) × (find two_hop_eq room key ≡ Some f)
    unfolding room
    in_room key t is = elim (same_key key.link told.least) [
      | inl at ↦
          let whole : key ≡ record { link = told.least; addr = key.addr } = ap (λ (l : LinkKey). let k : TwoHopKey = record { link = l; addr = key.addr } in k) at in
          subst (λ (k : TwoHopKey). (f : TwoHop × ℕ) × (find two_hop_eq (base_of old.two_hops i ++ entries_at told.least nothing some) k ≡ Some f)) (sym whole)
          (at_least key.addr (subst (λ (k : TwoHopKey). two_hop_at new i k ≡ Some t) whole is))
      | inr apart ↦ found_left (two_hop_eq key) (base_of old.two_hops i) (entries_at told.least nothing some) t
          (cond_none_some (is_symmetric_at new now i key.link) (two_hop_at old i key) t (sym (A.other_two_hops i key (inr apart)) ∙ is)).1
    ]
      where
        stood_there : (a : Addr4) (stood : Option (TwoHop × ℕ)) → StoodOn old i told a stood → stood ≡ Some t →
            (f : TwoHop × ℕ) × (find two_hop_eq (base_of old.two_hops i ++ entries_at told.least nothing some) (record { link = told.least; addr = a }) ≡ Some f)
        stood_there a stood (Same_link e at same) was = found_left (two_hop_eq (record { link = told.least; addr = a })) (base_of old.two_hops i) (entries_at told.least nothing some) t was
        stood_there a stood (New_link none) was = none_not refl was

        by_row : (a : Addr4) (stood : Option (TwoHop × ℕ)) → StoodOn old i told a stood →
            TellsTwoHop settings told hello (now + told.shown.validity) a stood (two_hop_at new i (record { link = told.least; addr = a })) → two_hop_at new i (record { link = told.least; addr = a }) ≡ Some t →
            (f : TwoHop × ℕ) × (find two_hop_eq (base_of old.two_hops i ++ entries_at told.least nothing some) (record { link = told.least; addr = a }) ≡ Some f)
        by_row a stood on (By_row row looks makes) is =
            let (e, at) = found_entry told.least nothing some a ((are a).1 (row, looks, row_says (tells_symmetric row.link row.other) (two_hop_of row) t (sym makes ∙ is))) in
            found_right (two_hop_eq (record { link = told.least; addr = a })) (base_of old.two_hops i) (entries_at told.least nothing some) e at
        by_row a stood on (By_none none same) is = stood_there a stood on (sym same ∙ is)

        at_least : (a : Addr4) → two_hop_at new i (record { link = told.least; addr = a }) ≡ Some t →
            (f : TwoHop × ℕ) × (find two_hop_eq (base_of old.two_hops i ++ entries_at told.least nothing some) (record { link = told.least; addr = a }) ≡ Some f)
        at_least a is = by_case (is_symmetric_at new now i told.least) refl
          where
            by_case : (b : Bool) → is_symmetric_at new now i told.least ≡ b →
                (f : TwoHop × ℕ) × (find two_hop_eq (base_of old.two_hops i ++ entries_at told.least nothing some) (record { link = told.least; addr = a }) ≡ Some f)
            by_case true symmetric = let (stood, on, tells) = A.two_hops symmetric a in by_row a stood on tells is
            by_case false none = none_not (A.no_two_hops none a) is

    limit_here : length (base_of new.two_hops i) ≤ length (base_of old.two_hops i) + length some
    unfolding room
    limit_here =
        let h = no_more two_hop_equiv (base_of new.two_hops i) room (A.tables.two_hops i) in_room in
        let both = length-append (base_of old.two_hops i) (entries_at told.least nothing some) in
        let count = length_entries told.least nothing some in
        omega (arith, h, both, count)

  limits : FitsTwoHops settings i old told hello → (j : ℕ) → length (base_of new.two_hops j) ≤ 16384
  limits fits j = elim (cases_eq j i) [
    | inl same ↦
        let (count, (some, distinct, is, are), few) = fits in
        let h = limit_here some are in
        subst (λ (n : ℕ). length (base_of new.two_hops n) ≤ 16384) (sym same) (omega (arith, h, is, few))
    | inr apart ↦ let h = limit_elsewhere j apart in let few : length (base_of old.two_hops j) ≤ 16384 = (S.two_hops j).limit in omega (arith, h, few)
  ]

  -- a HELLO that isn't too much keeps the statements
  pub hello_sound : (IsFullOfAddresses old told → ⊥) → FitsTwoHops settings i old told hello → SoundNeighbourhood settings now new
  unfolding IsOwned
  hello_sound fits room = record {
    interfaces = A.interfaces ∙ S.interfaces;
    two_hop_interfaces = A.two_hop_interfaces ∙ S.two_hop_interfaces;
    distinct_links = A.tables.links;
    distinct_neighbours = A.tables.neighbours;
    distinct_losts = A.tables.losts;
    fresh_links = fresh_link;
    fresh_neighbours = fresh_neighbour;
    fresh_losts = fresh_lost;
    two_hops = λ j. record {
      distinct = A.tables.two_hops j;
      limit = limits room j;
      fresh = λ key t until is. is_fresh_two_hop j key (t, until) (two_hop_is j key (t, until) is);
    };
    limit = λ more. let (some, distinct, all, many) = more in fits (some, distinct, λ a has. held_is a (all a has), many);
    link = sound_link;
    by_quality = by_quality;
    links_apart = links_apart;
    owner = owner;
    neighbour = sound_neighbour;
    neighbours_apart = neighbours_apart;
    two_hop = λ j key t is. is_symmetric_two_hop j key t (two_hop_is j key t is);
    lost = λ a e is symmetric. settles_back (A.losts a) is symmetric;
    lost_not_mine = lost_not_mine;
  }
