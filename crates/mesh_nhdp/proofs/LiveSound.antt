-- Expiry keeps what holds of a neighbourhood.
use Rattle.mesh_nhdp.proofs.Common.{common_steps, ◌≡◌, ℕ, ◌<◌, ◌≤◌, ◌⊎◌, inl, inr, refl, sym, ◌∙◌, ap, subst, arith, List, length, Contains, slice_get, Option, Some, None, IsTrue, Bool, true, false, nat_lt, ◌&&◌, Addr4, LinkKey, TwoHopKey, Link, TwoHop, Neighbour, Lost, RouterSettings, base_of, if_live, Neighbourhood, is_symmetric, link_at, two_hop_at, neighbour_at, lost_at, HasAddress, LiveNeighbourhood, trimmed, trim, HasLinkOf, KeepsNeighbour, Restores, SettlesLost, is_symmetric_at, IsAscending, IsHeld, SoundNeighbourhood, IsSoundLink, IsSoundNeighbour, two_hop_equiv, admit_on, rule_of, live_from, contains_at, same_some, cond_none_some, none_not}
use Rattle.mesh_nhdp.proofs.Admitted.{FollowsQuality, IsAlike, admitted_follows, follows_alike, admit_from, admit_stays}
use Rattle.mesh_nhdp.proofs.Limits.{no_more}
use Rattle.mesh_links.proofs.Admitted.{addrs-admitted}

-- Links

-- what trimming leaves
pub record IsTrimmed (now : ℕ) (e t : Link × ℕ) : Type 0 where
  pub alike : IsAlike e.0 t.0
  pub until : t.1 ≡ e.1
  pub link_out : is_symmetric t.0 now ≡ false → t.0.link_out ≡ None
  pub selector : is_symmetric t.0 now ≡ false → t.0.selector ≡ false

pub is_trimmed : (now : ℕ) (e : Link × ℕ) → IsTrimmed now e (trimmed now e)
is_trimmed now e = grind (arith, common_steps)

-- where a link that is left comes from
pub record ComesFrom (settings : RouterSettings) (i now : ℕ) (old : Option (Link × ℕ)) (e : Link × ℕ) : Type 0 where
  pub was : Link × ℕ
  pub stood : old ≡ Some was
  pub addrs : e.0.addrs ≡ was.0.addrs
  pub live : nat_lt now e.1 ≡ true
  pub link_out : is_symmetric e.0 now ≡ false → e.0.link_out ≡ None
  pub selector : is_symmetric e.0 now ≡ false → e.0.selector ≡ false
  pub follows : FollowsQuality (rule_of settings i) now e.0

pub trim_from : (now : ℕ) (o : Option (Link × ℕ)) (e : Link × ℕ) → trim now o ≡ Some e → (f : Link × ℕ) × (o ≡ Some f) × IsTrimmed now f e
trim_from now None e h = none_not refl h
trim_from now (Some f) e h = (f, refl, subst (λ (g : Link × ℕ). IsTrimmed now f g) (same_some refl h) (is_trimmed now f))

pub link_from : (settings : RouterSettings) (i now : ℕ) (old new : Option (Link × ℕ)) (e : Link × ℕ) → new ≡ trim now (if_live now (admit_on settings i now old)) → new ≡ Some e → ComesFrom settings i now old e
link_from settings i now old new e is at =
    let rule = rule_of settings i in
    let hold = settings.times.link_hold in
    let (h, live, t) = trim_from now (if_live now (admit_on settings i now old)) e (sym is ∙ at) in
    let (admits, later) = live_from now (admit_on settings i now old) h live in
    let (g, stood, same) = admit_from settings i now old h admits in
    record {
      was = g;
      stood = stood;
      addrs = t.alike.addrs ∙ (ap (λ (x : Link × ℕ). x.0.addrs) same ∙ addrs-admitted rule hold now g);
      live = subst (λ (n : ℕ). nat_lt now n ≡ true) (sym t.until) later;
      link_out = t.link_out;
      selector = t.selector;
      follows = follows_alike rule now h.0 e.0 t.alike (subst (λ (x : Link × ℕ). FollowsQuality rule now x.0) (sym same) (admitted_follows rule hold now g));
    }

-- Neighbours

pub restores_from : (near : Neighbourhood) (now : ℕ) (old new : Option (Neighbour × ℕ)) (f : Neighbour × ℕ) → Restores near now old new → new ≡ Some f →
    (e : Neighbour × ℕ) × (old ≡ Some e) × KeepsNeighbour near now e.0 f.0 f.1
restores_from near now None new f r is = none_not r is
restores_from near now (Some e) None f r is = none_not refl is
restores_from near now (Some e) (Some g) f r is = (e, refl, subst (λ (x : Neighbour × ℕ). KeepsNeighbour near now e.0 x.0 x.1) (same_some refl is) r)

pub restores_to : (near : Neighbourhood) (now : ℕ) (old new : Option (Neighbour × ℕ)) (e : Neighbour × ℕ) (i : ℕ) (key : LinkKey) (f : Link × ℕ) →
    Restores near now old new → old ≡ Some e → HasLinkOf near e.0.addrs i key f → (g : Neighbour × ℕ) × (new ≡ Some g) × KeepsNeighbour near now e.0 g.0 g.1
restores_to near now None new e i key f r is has = none_not refl is
restores_to near now (Some d) None e i key f r is has =
    absurd (r i key f (subst (λ (x : Neighbour × ℕ). HasLinkOf near x.0.addrs i key f) (sym (same_some refl is)) has))
restores_to near now (Some d) (Some g) e i key f r is has = (g, refl, subst (λ (x : Neighbour × ℕ). KeepsNeighbour near now x.0 g.0 g.1) (same_some refl is) r)

-- Lost addresses

pub settles_back : {was is : Type 0} {until : ℕ} {stood new : Option (Lost × ℕ)} {e : Lost × ℕ} → SettlesLost was is until stood new → new ≡ Some e → is → ⊥
settles_back h0 stands here = grind (arith, common_steps, none_not)

-- where a lost address comes from
pub settles_from : {was is : Type 0} {until : ℕ} {stood new : Option (Lost × ℕ)} {e : Lost × ℕ} → SettlesLost was is until stood new → new ≡ Some e →
    (was × (e.1 ≡ until)) ⊎ (stood ≡ Some e)
settles_from h0 stands = grind (arith, common_steps, none_not, same_some)

module _ (settings : RouterSettings) (before now : ℕ) (old new : Neighbourhood) (S : SoundNeighbourhood settings before old) (L : LiveNeighbourhood settings now old new) where
  pub link_was : (i : ℕ) (key : LinkKey) (e : Link × ℕ) → link_at new i key ≡ Some e → ComesFrom settings i now (link_at old i key) e
  link_was i key e is = link_from settings i now (link_at old i key) (link_at new i key) e (L.links i key) is

  pub neighbour_was : (o : Addr4) (f : Neighbour × ℕ) → neighbour_at new o ≡ Some f → (e : Neighbour × ℕ) × (neighbour_at old o ≡ Some e) × KeepsNeighbour new now e.0 f.0 f.1
  neighbour_was o f is = restores_from new now (neighbour_at old o) (neighbour_at new o) f (L.neighbours o) is

  new_link : (i : ℕ) (key : LinkKey) (link : Link) (until : ℕ) → link_at new i key ≡ Some (link, until) → IsSoundLink now key link
  new_link i key link until is =
      let c = link_was i key (link, until) is in
      let s = S.link i key c.was.0 c.was.1 c.stood in
      record {
        least = subst (λ (addrs : List Addr4). slice_get addrs 0 ≡ Some key.addr) (sym c.addrs) s.least;
        ascending = subst (λ (addrs : List Addr4). IsAscending addrs) (sym c.addrs) s.ascending;
        link_out = c.link_out;
        selector = c.selector;
      }

  new_by_quality : (i : ℕ) (key : LinkKey) → admit_on settings i now (link_at new i key) ≡ link_at new i key
  new_by_quality i key = admit_stays settings i now (link_at new i key) (λ e is. (link_was i key e is).follows)

  new_apart : (i : ℕ) (k l : LinkKey) (e f : Link × ℕ) (a : Addr4) → link_at new i k ≡ Some e → link_at new i l ≡ Some f →
      Contains e.0.addrs a → Contains f.0.addrs a → k ≡ l
  new_apart i k l e f a at to has as_well =
      let c = link_was i k e at in
      let d = link_was i l f to in
      S.links_apart i k l c.was d.was a c.stood d.stood (subst (λ (addrs : List Addr4). Contains addrs a) c.addrs has) (subst (λ (addrs : List Addr4). Contains addrs a) d.addrs as_well)

  new_owner : (i : ℕ) (key : LinkKey) (link : Link) (until : ℕ) → link_at new i key ≡ Some (link, until) →
      (o : Addr4) × (n : Neighbour) × (u : ℕ) × (neighbour_at new o ≡ Some (n, u)) × ((a : Addr4) → Contains link.addrs a → Contains n.addrs a)
  new_owner i key link until is =
      let c = link_was i key (link, until) is in
      let s = S.link i key c.was.0 c.was.1 c.stood in
      let (o, n, u, at, within) = S.owner i key c.was.0 c.was.1 c.stood in
      let (g, stands, r) = restores_to new now (neighbour_at old o) (neighbour_at new o) (n, u) i key (link, until) (L.neighbours o) at
      (within key.addr (contains_at c.was.0.addrs 0 key.addr s.least), is) in
      (o, g.0, g.1, stands, λ a has. subst (λ (addrs : List Addr4). Contains addrs a) (sym r.addrs) (within a (subst (λ (addrs : List Addr4). Contains addrs a) c.addrs has)))

  new_neighbour : (o : Addr4) (n : Neighbour) (until : ℕ) → neighbour_at new o ≡ Some (n, until) → IsSoundNeighbour settings new now o n until
  new_neighbour o n until is =
      let (e, at, r) = neighbour_was o (n, until) is in
      let s = S.neighbour o e.0 e.1 at in
      record {
        ascending = subst (λ (addrs : List Addr4). IsAscending addrs) (sym r.addrs) s.ascending;
        by_links = r.by_links;
        selector = λ h. and_right e.0.selector n.symmetric (subst (λ (b : Bool). IsTrue b) r.selector h);
        not_mine = s.not_mine;
        none_mine = λ a has mine. s.none_mine a (subst (λ (addrs : List Addr4). Contains addrs a) r.addrs has) mine;
      }
    where
      and_right : (a b : Bool) → IsTrue (a && b) → IsTrue b
      and_right true b h = h
      and_right false true h = refl
      and_right false false h = h

  new_neighbours_apart : (o p : Addr4) (e f : Neighbour × ℕ) (a : Addr4) → neighbour_at new o ≡ Some e → neighbour_at new p ≡ Some f →
      Contains e.0.addrs a → Contains f.0.addrs a → o ≡ p
  new_neighbours_apart o p e f a at to has as_well =
      let (c, stood, r) = neighbour_was o e at in
      let (d, stood_too, t) = neighbour_was p f to in
      S.neighbours_apart o p c d a stood stood_too (subst (λ (addrs : List Addr4). Contains addrs a) r.addrs has) (subst (λ (addrs : List Addr4). Contains addrs a) t.addrs as_well)

  two_hop_was : (i : ℕ) (key : TwoHopKey) (t : TwoHop × ℕ) → two_hop_at new i key ≡ Some t →
      (is_symmetric_at new now i key.link ≡ true) × (two_hop_at old i key ≡ Some t) × (nat_lt now t.1 ≡ true)
  two_hop_was i key t is = grind (arith, common_steps, cond_none_some, live_from)

  -- the addresses that are held were held
  held_was : (a : Addr4) → IsHeld new a → IsHeld old a
  held_was a (inl (f, is)) = let (e, at, r) = neighbour_was a f is in inl (e, at)
  held_was a (inr (inl (o, n, until, is, has))) =
      let (e, at, r) = neighbour_was o (n, until) is in
      inr (inl (o, e.0, e.1, at, subst (λ (addrs : List Addr4). Contains addrs a) r.addrs has))
  held_was a (inr (inr (e, is))) = elim (settles_from (L.losts a) is) [
    | inl gone ↦ let (o, n, until, at, _, has) = gone.0 in inr (inl (o, n, until, at, has))
    | inr stood ↦ inr (inr (e, (live_from now (lost_at old a) e stood).0))
  ]

  new_lost_not_mine : (a : Addr4) (e : Lost × ℕ) → lost_at new a ≡ Some e → HasAddress settings a → ⊥
  new_lost_not_mine a e is mine = elim (settles_from (L.losts a) is) [
    | inl gone ↦ let (o, n, until, at, _, has) = gone.0 in (S.neighbour o n until at).none_mine a has mine
    | inr stood ↦ S.lost_not_mine a e (live_from now (lost_at old a) e stood).0 mine
  ]

  new_fresh_lost : 0 < settings.times.neighbour_hold → (a : Addr4) (e : Lost) (until : ℕ) → lost_at new a ≡ Some (e, until) → nat_lt now until ≡ true
  new_fresh_lost holds a e until is = grind (arith, common_steps, settles_from, live_from)

  new_fresh_neighbour : (o : Addr4) (n : Neighbour) (until : ℕ) → neighbour_at new o ≡ Some (n, until) → nat_lt now until ≡ true
  new_fresh_neighbour o n until is = grind (arith, common_steps, neighbour_was, link_was)

  fewer : (i : ℕ) → length (base_of new.two_hops i) ≤ length (base_of old.two_hops i)
  fewer i = no_more two_hop_equiv (base_of new.two_hops i) (base_of old.two_hops i) (L.tables.two_hops i) (λ key t is. (t, (two_hop_was i key t is).1))

  -- expiry keeps the statements
  pub live_sound : 0 < settings.times.neighbour_hold → SoundNeighbourhood settings now new
  live_sound holds = record {
    interfaces = L.interfaces ∙ S.interfaces;
    two_hop_interfaces = L.two_hop_interfaces ∙ S.two_hop_interfaces;
    distinct_links = L.tables.links;
    distinct_neighbours = L.tables.neighbours;
    distinct_losts = L.tables.losts;
    fresh_links = λ i key link until is. (link_was i key (link, until) is).live;
    fresh_neighbours = new_fresh_neighbour;
    fresh_losts = new_fresh_lost holds;
    two_hops = λ i. record {
      distinct = L.tables.two_hops i;
      limit = let a : length (base_of old.two_hops i) ≤ 16384 = (S.two_hops i).limit in omega (arith, fewer i, a);
      fresh = λ key t until is. (two_hop_was i key (t, until) is).2;
    };
    limit = λ more. let (some, distinct, all, many) = more in S.limit (some, distinct, λ a has. held_was a (all a has), many);
    link = new_link;
    by_quality = new_by_quality;
    links_apart = new_apart;
    owner = new_owner;
    neighbour = new_neighbour;
    neighbours_apart = new_neighbours_apart;
    two_hop = λ i key t is. (two_hop_was i key t is).0;
    lost = λ a e is symmetric. settles_back (L.losts a) is symmetric;
    lost_not_mine = new_lost_not_mine;
  }
