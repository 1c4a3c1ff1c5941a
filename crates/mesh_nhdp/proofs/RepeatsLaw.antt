-- A HELLO that repeats what is held already changes nothing but moments.
use Rattle.mesh_nhdp.proofs.Common.{common_steps, ◌≡◌, ℕ, ◌+◌, ◌<◌, ◌≢◌, ◌⊎◌, ◌↔◌, inl, inr, refl, sym, ◌∙◌, ap, subst, arith, List, Contains, Option, Some, None, IsTrue, Bool, true, false, cond, ◌&&◌, option_map, false≢true, cases_eq, Addr4, Metric, Hello, LinkStatus, Shown, Admit, RouterSettings, Link, LinkKey, Neighbour, TwoHop, TwoHopKey, base_of, addr_eq, two_hop_eq, Neighbourhood, is_symmetric, link_at, two_hop_at, neighbour_at, HasAddress, trimmed, is_symmetric_at, is_symmetric_entry, HasSymmetricOf, IsByLinks, Restores, SoundNeighbourhood, IsKept, Told, tells_symmetric, two_hop_of, AfterHello, LinkKeptOrMade, renewed, by_status, GoesOn, Matches, announced, BecomesOther, Joins, Remains, StoodOn, Same_link, New_link, TellsTwoHop, By_row, By_none, SameTuples, way_at, SameNear, same_key, RepeatsStatus, RepeatsRow, RepeatsRows, Repeats, same_some, none_not, same_address}
use Rattle.mesh_nhdp.proofs.LiveSound.{restores_to}
use Rattle.mesh_nhdp.proofs.RowWalks.{looks_on}
use Rattle.mesh_nhdp.proofs.RowsRepeat.{row_value}
use Rattle.mesh_nhdp.proofs.Touched.{and_same}
use Rattle.mesh_atoms.proofs.Equal.{least_only, same_neighbour}

-- What is the only one

same_truth : (a b : Bool) → (IsTrue a → IsTrue b) → (IsTrue b → IsTrue a) → a ≡ b
same_truth a b to back = grind (arith, common_steps)

-- What is kept

kept_to : {A : Type 0} (P : A → Type 0) (old new : Option A) (e : A) → IsKept P old new → old ≡ Some e → P e → new ≡ Some e
kept_to P old new e k is p = grind (arith, common_steps, none_not, same_some)

kept_none : {A : Type 0} (P : A → Type 0) (old new : Option A) → IsKept P old new → old ≡ None → new ≡ None
kept_none P old new k is = grind (arith, common_steps, none_not)

cond_kept : {A : Type 0} (b : Bool) (o : Option A) → ((t : A) → o ≡ Some t → b ≡ true) → cond b o None ≡ o
cond_kept b o all = grind (arith, common_steps)

-- The link that the HELLO renews

-- a link that is SYMMETRIC where another is, with the same metrics
record IsLike (now : ℕ) (a b : Link) : Type 0 where
  pub symmetric : is_symmetric b now ≡ is_symmetric a now
  pub link_in : b.link_in ≡ a.link_in
  pub link_out : b.link_out ≡ a.link_out

record IsCut (now : ℕ) (f t : Link) : Type 0 where
  pub symmetric : is_symmetric t now ≡ is_symmetric f now
  pub link_in : t.link_in ≡ f.link_in
  pub link_out : t.link_out ≡ cond (is_symmetric f now) f.link_out None

cut_by : (now : ℕ) (f : Link × ℕ) → IsCut now f.0 (trimmed now f).0
cut_by now f = grind (arith, common_steps)

pending_not : (pending lost late : Bool) → pending ≡ true → cond pending false (cond lost false late) ≡ false
pending_not pending lost late is = grind (arith, common_steps)

lost_not : (pending lost late : Bool) → lost ≡ true → cond pending false (cond lost false late) ≡ false
lost_not pending lost late is = grind (arith, common_steps)

later_too : (pending lost late later : Bool) → cond pending false (cond lost false late) ≡ true → later ≡ true → cond pending false (cond lost false later) ≡ true
later_too pending lost late later is at = grind (arith, common_steps)

module _ (shown : Shown) (hold now : ℕ) (e : Link × ℕ) (lasts : 0 < shown.validity) (none : is_symmetric e.0 now ≡ false → e.0.link_out ≡ None) where
  out_there : cond (is_symmetric e.0 now) e.0.link_out None ≡ e.0.link_out
  out_there = grind (arith, common_steps)

  -- a link that is SYMMETRIC neither before nor after
  no_out : (b : Bool) (out : Option Metric) → b ≡ false → is_symmetric e.0 now ≡ false → cond b out None ≡ e.0.link_out
  no_out b out is was = ap (λ (x : Bool). cond x out None) is ∙ sym (none was)

  -- what it says of the link
  said_like : (e.0.pending ≡ true) ⊎ ((e.0.lost ≡ true) ⊎ ((is_symmetric e.0 now ≡ true) × (e.0.link_out ≡ shown.link_out))) →
      (is_symmetric (record e.0 { sym = now + shown.validity; link_out = shown.link_out; selector = shown.selector }) now ≡ is_symmetric e.0 now)
      × (cond (is_symmetric (record e.0 { sym = now + shown.validity; link_out = shown.link_out; selector = shown.selector }) now) shown.link_out None ≡ e.0.link_out)
  said_like h0 = grind (arith, common_steps, pending_not, no_out, lost_not, later_too)

  status_like : (status : Option LinkStatus) → RepeatsStatus shown now e.0 status →
      let f : Link × ℕ = by_status shown hold now status e in
      (is_symmetric f.0 now ≡ is_symmetric e.0 now) × (f.0.link_in ≡ e.0.link_in) × (cond (is_symmetric f.0 now) f.0.link_out None ≡ e.0.link_out)
  status_like status r = grind (arith, common_steps, out_there, no_out, said_like)

  renewed_like : RepeatsStatus shown now e.0 shown.status → IsLike now e.0 (renewed shown hold now e).0
  renewed_like r = grind (arith, common_steps, status_like, cut_by)

begins_one : {rule : Admit} {shown : Shown} {now : ℕ} {old : Option (Link × ℕ)} {start : Link × ℕ} (e : Link × ℕ) → LinkKeptOrMade rule shown now old start → old ≡ Some e → e.0.addrs ≡ shown.sending → start ≡ e
begins_one e h1 is addrs = grind (arith, common_steps, same_some)

-- The whole

module _ (settings : RouterSettings) (now i : ℕ) (told : Told) (hello : Hello) (own : List Addr4) (own_is : (a : Addr4) → Contains own a ↔ HasAddress settings a) (old new : Neighbourhood) (lasts : 0 < told.shown.validity)
    (S : SoundNeighbourhood settings now old) (A : AfterHello settings now i told hello old new) (R : Repeats now i told old)
    (rows : is_symmetric_at new now i told.least ≡ true → RepeatsRows own told.listed (base_of old.two_hops i) told.least hello) where
  -- Neighbours that the HELLO speaks of

  speaks_of_one : (o : Addr4) (e : Neighbour × ℕ) → neighbour_at old o ≡ Some e → Matches told.originator told.listed o e.0 → o ≡ told.originator
  speaks_of_one o e at (inl same) = same
  speaks_of_one o e at (inr (a, has, listed)) =
      S.neighbours_apart o told.originator e R.neighbour.one a at R.neighbour.stands has (subst (λ (xs : List Addr4). Contains xs a) (sym R.neighbour.addrs) listed)

  has_listed : (o : Addr4) (e : Neighbour × ℕ) → neighbour_at old o ≡ Some e → o ≡ told.originator → e.0.addrs ≡ told.listed
  has_listed o e at is = grind (arith, common_steps, same_some)

  -- Links

  goes_on : (j : ℕ) (key : LinkKey) (e : Link × ℕ) → ((j ≢ i) ⊎ (key ≢ told.least)) → link_at old j key ≡ Some e → GoesOn old told i j e.0
  goes_on j key e other at = record {
    listed = λ has beyond.
        let (a, in_link, (o, n, u, stands, matches, in_n)) = has in
        let (p, m, v, owns, within) = S.owner j key e.0 e.1 at in
        let same : p ≡ o = S.neighbours_apart p o (m, v) (n, u) a owns stands (within a in_link) in_n in
        let one : p ≡ told.originator = same ∙ speaks_of_one o (n, u) stands matches in
        let (b, in_b, out) = beyond in
        out (subst (λ (xs : List Addr4). Contains xs b) (has_listed p (m, v) owns one) (within b in_b));
    apart = λ here. inr (λ meets.
        let (a, in_link, sends) = meets in
        let key_is : key ≡ told.least = S.links_apart i key told.least e R.link.one a (subst (λ (n : ℕ). link_at old n key ≡ Some e) here at) R.link.stands in_link
        (subst (λ (xs : List Addr4). Contains xs a) (sym R.link.addrs) sends) in
        elim other [ inl apart ↦ apart here | inr apart ↦ apart key_is ]);
  }

  -- a link before is like one after
  Goes : ℕ → LinkKey → Link × ℕ → Type 0
  Goes j key e = (f : Link × ℕ) × (link_at new j key ≡ Some f) × IsLike now e.0 f.0

  other_goes : (j : ℕ) (key : LinkKey) (e : Link × ℕ) → ((j ≢ i) ⊎ (key ≢ told.least)) → link_at old j key ≡ Some e → Goes j key e
  unfolding Goes
  other_goes j key e other at =
      (e, kept_to (λ (x : Link × ℕ). GoesOn old told i j x.0) (link_at old j key) (link_at new j key) e (A.other_links j key other) at (goes_on j key e other at), record { symmetric = refl; link_in = refl; link_out = refl })

  one_goes : (e : Link × ℕ) → link_at old i told.least ≡ Some e → Goes i told.least e
  unfolding Goes
  one_goes e at =
      let (start, begins, stands) = A.link in
      let same : R.link.one ≡ e = same_some R.link.stands at in
      let is : start ≡ e = begins_one R.link.one begins R.link.stands R.link.addrs ∙ same in
      let repeats : RepeatsStatus told.shown now e.0 told.shown.status = subst (λ (x : Link × ℕ). RepeatsStatus told.shown now x.0 told.shown.status) same R.link.status in
      let like : IsLike now e.0 (renewed told.shown settings.times.link_hold now e).0 =
      renewed_like told.shown settings.times.link_hold now e lasts (S.link i told.least e.0 e.1 at).link_out repeats in
      (renewed told.shown settings.times.link_hold now e, subst (λ (x : Link × ℕ). link_at new i told.least ≡ Some (renewed told.shown settings.times.link_hold now x)) is stands, like)

  link_goes : (j : ℕ) (key : LinkKey) (e : Link × ℕ) → link_at old j key ≡ Some e → Goes j key e
  link_goes j key e at = elim (cases_eq j i) [
    | inl same ↦ elim (same_key key told.least) [
      | inl is ↦
          let there : link_at old i told.least ≡ Some e = subst (λ (k : LinkKey). link_at old i k ≡ Some e) is (subst (λ (n : ℕ). link_at old n key ≡ Some e) same at) in
          subst (λ (n : ℕ). Goes n key e) (sym same) (subst (λ (k : LinkKey). Goes i k e) (sym is) (one_goes e there))
      | inr apart ↦ other_goes j key e (inr apart) at
    ]
    | inr apart ↦ other_goes j key e (inl apart) at
  ]

  none_comes : (j : ℕ) (key : LinkKey) → link_at old j key ≡ None → link_at new j key ≡ None
  none_comes j key none = elim (cases_eq j i) [
    | inl same ↦ elim (same_key key told.least) [
      | inl is ↦ none_not (subst (λ (k : LinkKey). link_at old i k ≡ None) is (subst (λ (n : ℕ). link_at old n key ≡ None) same none)) R.link.stands
      | inr apart ↦ kept_none (λ (x : Link × ℕ). GoesOn old told i j x.0) (link_at old j key) (link_at new j key) (A.other_links j key (inr apart)) none
    ]
    | inr apart ↦ kept_none (λ (x : Link × ℕ). GoesOn old told i j x.0) (link_at old j key) (link_at new j key) (A.other_links j key (inl apart)) none
  ]

  link_came : (j : ℕ) (key : LinkKey) (f : Link × ℕ) → link_at new j key ≡ Some f → (e : Link × ℕ) × (link_at old j key ≡ Some e) × IsLike now e.0 f.0
  unfolding Goes
  link_came j key f at = by_old (link_at old j key) refl
    where
      by_old : (o : Option (Link × ℕ)) → link_at old j key ≡ o → (e : Link × ℕ) × (link_at old j key ≡ Some e) × IsLike now e.0 f.0
      by_old None is = none_not (none_comes j key is) at
      by_old (Some e) is = let (g, stands, like) = link_goes j key e is in (e, is, subst (λ (x : Link × ℕ). IsLike now e.0 x.0) (same_some stands at) like)

  way_stays : (j : ℕ) (key : LinkKey) → (way_at now (link_at new j key) ≡ way_at now (link_at old j key)) × (is_symmetric_at new now j key ≡ is_symmetric_at old now j key)
  unfolding Goes
  way_stays j key = by_old (link_at old j key) refl
    where
      by_old : (o : Option (Link × ℕ)) → link_at old j key ≡ o → (way_at now (link_at new j key) ≡ way_at now o) × (is_symmetric_at new now j key ≡ is_symmetric_entry now o)
      by_old None is = let none = none_comes j key is in (ap (way_at now) none, ap (is_symmetric_entry now) none)
      by_old (Some e) is =
          let (f, stands, like) = link_goes j key e is in (
            ap (way_at now) stands ∙ (ap (λ (b : Bool). cond b f.0.link_out None) like.symmetric ∙ ap (λ (o : Option Metric). cond (is_symmetric e.0 now) o None) like.link_out),
            ap (is_symmetric_entry now) stands ∙ like.symmetric,
          )

  -- Neighbours

  has_new : (addrs : List Addr4) (link : Link) → HasSymmetricOf old now addrs link → (l : Link) × HasSymmetricOf new now addrs l × (l.link_in ≡ link.link_in) × (l.link_out ≡ link.link_out)
  unfolding Goes
  has_new addrs link (j, key, until, (has, at), is) =
      let (f, stands, like) = link_goes j key (link, until) at in (f.0, (j, key, f.1, (has, stands), like.symmetric ∙ is), like.link_in, like.link_out)

  has_old : (addrs : List Addr4) (link : Link) → HasSymmetricOf new now addrs link → (l : Link) × HasSymmetricOf old now addrs l × (l.link_in ≡ link.link_in) × (l.link_out ≡ link.link_out)
  has_old addrs link (j, key, until, (has, at), is) =
      let (e, stands, like) = link_came j key (link, until) at in (e.0, (j, key, e.1, (has, stands), sym like.symmetric ∙ is), sym like.link_in, sym like.link_out)

  value_stays : (start : Neighbour × ℕ) (n : Neighbour) (until : ℕ) → IsByLinks old now n until → start.0.addrs ≡ n.addrs → start.0.willing ≡ n.willing → (start.0.selector && n.symmetric) ≡ n.selector →
      (o : Option (Neighbour × ℕ)) → Restores new now (Some start) o → option_map (λ (e : Neighbour × ℕ). e.0) o ≡ Some n
  unfolding Goes
  value_stays start n until b addrs willing selector o r =
      let (j, key, link, has) = b.latest in
      let (f, stands, _) = link_goes j key (link, until) has.1 in
      let (g, is, renews) = restores_to new now (Some start) o start j key f r refl (subst (λ (xs : List Addr4). Contains xs key.addr) (sym addrs) has.0, stands) in
      let its : g.0.addrs ≡ n.addrs = renews.addrs ∙ addrs in
      let here : (l : Link) → HasSymmetricOf new now g.0.addrs l → HasSymmetricOf new now n.addrs l = λ l of. subst (λ (xs : List Addr4). HasSymmetricOf new now xs l) its of in
      let there : (l : Link) → HasSymmetricOf new now n.addrs l → HasSymmetricOf new now g.0.addrs l = λ l of. subst (λ (xs : List Addr4). HasSymmetricOf new now xs l) (sym its) of in
      let symmetric : g.0.symmetric ≡ n.symmetric = same_truth g.0.symmetric n.symmetric
      (λ h. let (l, of) = renews.by_links.symmetric.0 h in let (k, so, _, _) = has_old n.addrs l (here l of) in b.symmetric.1 (k, so))
      (λ h. let (l, of) = b.symmetric.0 h in let (k, so, _, _) = has_new n.addrs l of in renews.by_links.symmetric.1 (k, there k so)) in
      let metric_in : g.0.metric_in ≡ n.metric_in = least_only _ _ g.0.metric_in n.metric_in
      (λ m h. let (l, of, says) = h in let (k, so, same, _) = has_old n.addrs l (here l of) in (k, so, same ∙ says))
      (λ m h. let (l, of, says) = h in let (k, so, same, _) = has_new n.addrs l of in (k, there k so, same ∙ says)) renews.by_links.metric_in b.metric_in in
      let metric_out : g.0.metric_out ≡ n.metric_out = least_only _ _ g.0.metric_out n.metric_out
      (λ m h. let (l, of, says) = h in let (k, so, _, same) = has_old n.addrs l (here l of) in (k, so, same ∙ says))
      (λ m h. let (l, of, says) = h in let (k, so, _, same) = has_new n.addrs l of in (k, there k so, same ∙ says)) renews.by_links.metric_out b.metric_out in
      ap (option_map (λ (e : Neighbour × ℕ). e.0)) is
      ∙ ap (λ (x : Neighbour). Some x) (same_neighbour g.0 n its symmetric metric_in metric_out (renews.willing ∙ willing) (renews.selector ∙ (ap (λ (x : Bool). start.0.selector && x) symmetric ∙ selector)))

  the_neighbour : option_map (λ (e : Neighbour × ℕ). e.0) (neighbour_at new told.originator) ≡ option_map (λ (e : Neighbour × ℕ). e.0) (neighbour_at old told.originator)
  the_neighbour =
      let e : Neighbour × ℕ = R.neighbour.one in
      let s = S.neighbour told.originator e.0 e.1 R.neighbour.stands in
      value_stays (announced told.listed told.willing told.routing, 0) e.0 e.1 s.by_links (sym R.neighbour.addrs) (sym R.neighbour.willing) (sym R.neighbour.selector) (neighbour_at new told.originator) A.neighbour
      ∙ sym (ap (option_map (λ (x : Neighbour × ℕ). x.0)) R.neighbour.stands)

  other_neighbour : (o : Addr4) → o ≢ told.originator → option_map (λ (e : Neighbour × ℕ). e.0) (neighbour_at new o) ≡ option_map (λ (e : Neighbour × ℕ). e.0) (neighbour_at old o)
  other_neighbour o other = by_case (A.other_neighbours o other)
    where
      by_old : (was : Option (Neighbour × ℕ)) → neighbour_at old o ≡ was → Restores new now was (neighbour_at new o) → option_map (λ (e : Neighbour × ℕ). e.0) (neighbour_at new o) ≡ option_map (λ (e : Neighbour × ℕ). e.0) was
      by_old None is r = ap (option_map (λ (e : Neighbour × ℕ). e.0)) r
      by_old (Some e) is r =
          let s = S.neighbour o e.0 e.1 is in
          value_stays e e.0 e.1 s.by_links refl refl (sym (and_same e.0.selector e.0.symmetric s.selector)) (neighbour_at new o) r

      by_case : BecomesOther new now told o (neighbour_at old o) (neighbour_at new o) → option_map (λ (e : Neighbour × ℕ). e.0) (neighbour_at new o) ≡ option_map (λ (e : Neighbour × ℕ). e.0) (neighbour_at old o)
      by_case (Joins e at matches none) = absurd (other (speaks_of_one o e at matches))
      by_case (Remains not r) = by_old (neighbour_at old o) refl r

  neighbours_stay : SameTuples addr_eq old.neighbours new.neighbours
  neighbours_stay o = elim (same_address o told.originator) [
    | inl same ↦ subst (λ (a : Addr4). option_map (λ (e : Neighbour × ℕ). e.0) (neighbour_at new a) ≡ option_map (λ (e : Neighbour × ℕ). e.0) (neighbour_at old a)) (sym same) the_neighbour
    | inr apart ↦ other_neighbour o apart
  ]

  -- 2-hop tuples

  KeepsTuple : ℕ → TwoHopKey → Type 0
  KeepsTuple j key = option_map (λ (t : TwoHop × ℕ). t.0) (two_hop_at new j key) ≡ option_map (λ (t : TwoHop × ℕ). t.0) (two_hop_at old j key)

  other_two_hop : (j : ℕ) (key : TwoHopKey) → ((j ≢ i) ⊎ (key.link ≢ told.least)) → KeepsTuple j key
  unfolding KeepsTuple
  other_two_hop j key other = ap (option_map (λ (t : TwoHop × ℕ). t.0)) (A.other_two_hops j key other
      ∙ cond_kept (is_symmetric_at new now j key.link) (two_hop_at old j key) (λ t at. (way_stays j key.link).1 ∙ S.two_hop j key t at))

  one_two_hop : (a : Addr4) → KeepsTuple i (record { link = told.least; addr = a })
  unfolding KeepsTuple
  one_two_hop a = by_case (is_symmetric_at new now i told.least) refl
    where
      by_row : is_symmetric_at new now i told.least ≡ true → (stood : Option (TwoHop × ℕ)) → StoodOn old i told a stood →
          TellsTwoHop settings told hello (now + told.shown.validity) a stood (two_hop_at new i (record { link = told.least; addr = a })) →
          option_map (λ (t : TwoHop × ℕ). t.0) (two_hop_at new i (record { link = told.least; addr = a })) ≡ option_map (λ (t : TwoHop × ℕ). t.0) (two_hop_at old i (record { link = told.least; addr = a }))
      by_row is stood (New_link none) tells = absurd (none R.link.one R.link.stands R.link.addrs)
      by_row is stood (Same_link e at same) (By_none none stays) = ap (option_map (λ (t : TwoHop × ℕ). t.0)) stays
      by_row is stood (Same_link e at same) (By_row row looks makes) =
          let (on, of) = looks_on settings told hello own told.listed own_is refl row a looks in
          let repeats : RepeatsRow (base_of old.two_hops i) told.least row = rows is row looks.stands.0 on in
          ap (option_map (λ (t : TwoHop × ℕ). t.0)) makes
          ∙ (row_value (tells_symmetric row.link row.other) (two_hop_of row) (now + told.shown.validity)
          ∙ sym (subst (λ (b : Addr4). option_map (λ (t : TwoHop × ℕ). t.0) (two_hop_at old i (record { link = told.least; addr = b })) ≡ cond (tells_symmetric row.link row.other) (Some (two_hop_of row)) None) of repeats))

      no_old : (o : Option (TwoHop × ℕ)) → two_hop_at old i (record { link = told.least; addr = a }) ≡ o → is_symmetric_at new now i told.least ≡ false → o ≡ None
      no_old None at is = refl
      no_old (Some t) at is = absurd (false≢true (sym is ∙ ((way_stays i told.least).1 ∙ S.two_hop i (record { link = told.least; addr = a }) t at)))

      by_case : (b : Bool) → is_symmetric_at new now i told.least ≡ b →
          option_map (λ (t : TwoHop × ℕ). t.0) (two_hop_at new i (record { link = told.least; addr = a })) ≡ option_map (λ (t : TwoHop × ℕ). t.0) (two_hop_at old i (record { link = told.least; addr = a }))
      by_case true is = let (stood, on, tells) = A.two_hops is a in by_row is stood on tells
      by_case false is = ap (option_map (λ (t : TwoHop × ℕ). t.0)) (A.no_two_hops is a ∙ sym (no_old (two_hop_at old i (record { link = told.least; addr = a })) refl is))

  two_hops_stay : (j : ℕ) → SameTuples two_hop_eq (base_of old.two_hops j) (base_of new.two_hops j)
  unfolding KeepsTuple
  two_hops_stay j key = elim (cases_eq j i) [
    | inl same ↦ elim (same_key key.link told.least) [
      | inl is ↦
          let whole : key ≡ record { link = told.least; addr = key.addr } = ap (λ (l : LinkKey). let k : TwoHopKey = record { link = l; addr = key.addr } in k) is in
          subst (λ (n : ℕ). KeepsTuple n key) (sym same) (subst (λ (k : TwoHopKey). KeepsTuple i k) (sym whole) (one_two_hop key.addr))
      | inr apart ↦ other_two_hop j key (inr apart)
    ]
    | inr apart ↦ other_two_hop j key (inl apart)
  ]

  pub repeats_same : SameNear old now new now
  repeats_same = record { neighbours = neighbours_stay; two_hops = two_hops_stay; ways = λ j key. (way_stays j key).0 }

pub unchanged_same : (near : Neighbourhood) (now : ℕ) → SameNear near now near now
unchanged_same near now = record { neighbours = λ o. refl; two_hops = λ j key. refl; ways = λ j key. refl }
