-- What a HELLO doesn't touch: the neighbours that it doesn't speak of, with their links.
use Rattle.mesh_nhdp.proofs.Common.{common_steps, ◌≡◌, ℕ, ◌≢◌, ◌⊎◌, ◌↔◌, inl, inr, refl, sym, ◌∙◌, subst, arith, List, [], Contains, Option, Some, None, IsTrue, Bool, true, false, cond, ◌&&◌, Addr4, LinkKey, Link, Neighbour, Lost, RouterSettings, HasDistinctKeys, addr_eq, Neighbourhood, link_at, neighbour_at, lost_at, HasLinkOf, HasSymmetricOf, IsByLinks, Restores, IsSymmetricAddress, SettlesLost, Back, Gone, Stays, IsKept, Told, GoesOn, IsTheirs, Matches, SoundNeighbourhood, symmetric_at, contains_at, same_some, none_not, same_address, kept_from, least_same}
use Rattle.mesh_nhdp.proofs.SymmetricAddresses.{symmetric_or_not}

pub and_same : (a b : Bool) → (IsTrue a → IsTrue b) → a ≡ (a && b)
and_same a b h = grind (arith, common_steps)

-- an address of a symmetric neighbour that the HELLO speaks of
abbrev pub IsTheirSymmetric : Neighbourhood → Told → Addr4 → Type 0
IsTheirSymmetric near told a =
    (o : Addr4) × (n : Neighbour) × (until : ℕ) × (neighbour_at near o ≡ Some (n, until)) × (IsTrue n.symmetric × Matches told.originator told.listed o n) × Contains n.addrs a

-- the addresses of a symmetric neighbour
pub at_symmetric : (o : Option (Neighbour × ℕ)) (a : Addr4) → Contains (symmetric_at o) a → (n : Neighbour) × (until : ℕ) × (o ≡ Some (n, until)) × IsTrue n.symmetric × Contains n.addrs a
at_symmetric None a has = absurd (omega (arith, has.1))
at_symmetric (Some e) a has = by_case e.0.symmetric refl has where
  by_case : (b : Bool) → e.0.symmetric ≡ b → Contains (cond b e.0.addrs []) a → (n : Neighbour) × (until : ℕ) × (Some e ≡ Some (n, until)) × IsTrue n.symmetric × Contains n.addrs a
  by_case true is c = (e.0, e.1, refl, is, c)
  by_case false is c = absurd (omega (arith, c.1))

pub symmetric_is : (o : Option (Neighbour × ℕ)) (a : Addr4) (n : Neighbour) (until : ℕ) → o ≡ Some (n, until) → IsTrue n.symmetric → Contains n.addrs a → Contains (symmetric_at o) a
symmetric_is o a n until at is has = rw (at, is) has

module _ (settings : RouterSettings) (now i : ℕ) (told : Told) (old new : Neighbourhood) (within : (a : Addr4) → Contains told.shown.sending a → Contains told.listed a)
    (least : Contains told.listed told.least.addr) (S : SoundNeighbourhood settings now old)
    (other_links : (j : ℕ) (key : LinkKey) → ((j ≢ i) ⊎ (key ≢ told.least)) → IsKept (λ e. GoesOn old told i j e.0) (link_at old j key) (link_at new j key)) where
  module _ (o : Addr4) (e : Neighbour × ℕ) (at : neighbour_at old o ≡ Some e) (other : Matches told.originator told.listed o e.0 → ⊥) where
    unlisted : (a : Addr4) → Contains e.0.addrs a → Contains told.listed a → ⊥
    unlisted a has listed = other (inr (a, has, listed))

    -- a neighbour that has one of its addresses is this one
    its : (p : Addr4) (n : Neighbour) (u : ℕ) (a : Addr4) → neighbour_at old p ≡ Some (n, u) → Contains n.addrs a → Contains e.0.addrs a → (p ≡ o) × ((n, u) ≡ e)
    its p n u a there in_n in_e =
        let same : p ≡ o = S.neighbours_apart p o (n, u) e a there at in_n in_e in
        (same, same_some (subst (λ (q : Addr4). neighbour_at old q ≡ Some (n, u)) same there) at)

    -- a link whose key it has is its own
    its_own : (j : ℕ) (key : LinkKey) (f : Link × ℕ) → link_at old j key ≡ Some f → Contains e.0.addrs key.addr → (a : Addr4) → Contains f.0.addrs a → Contains e.0.addrs a
    its_own j key f there has a in_link =
        let (p, n, u, at_p, all) = S.owner j key f.0 f.1 there in
        let (same, is) = its p n u key.addr at_p (all key.addr (contains_at f.0.addrs 0 key.addr (S.link j key f.0 f.1 there).least)) has in
        subst (λ (x : Neighbour × ℕ). Contains x.0.addrs a) is (all a in_link)

    goes_on : (j : ℕ) (key : LinkKey) (f : Link × ℕ) → link_at old j key ≡ Some f → Contains e.0.addrs key.addr → GoesOn old told i j f.0
    goes_on j key f there has = record {
      listed = λ theirs beyond.
          let (a, in_link, (p, n, u, at_p, matches, in_n)) = theirs in
          let (same, is) = its p n u a at_p in_n (its_own j key f there has a in_link) in
          other (subst (λ (q : Addr4). Matches told.originator told.listed q e.0) same (subst (λ (x : Neighbour × ℕ). Matches told.originator told.listed p x.0) is matches));
      apart = λ here. inr (λ meets. let (a, in_link, sending) = meets in unlisted a (its_own j key f there has a in_link) (within a sending));
    }

    -- its links stand
    pub stands : (j : ℕ) (key : LinkKey) → Contains e.0.addrs key.addr → link_at new j key ≡ link_at old j key
    stands j key has = by_case (link_at old j key) refl (other_links j key (inr not_least)) where
      not_least : key ≢ told.least
      not_least same = unlisted key.addr has (subst (λ (k : LinkKey). Contains told.listed k.addr) (sym same) least)

      by_case : (x : Option (Link × ℕ)) → link_at old j key ≡ x → IsKept (λ f. GoesOn old told i j f.0) x (link_at new j key) → link_at new j key ≡ x
      by_case None is kept = kept
      by_case (Some f) is (inl kept) = kept.1
      by_case (Some f) is (inr gone) = absurd (gone.0 (goes_on j key f is has))

    has_now : (j : ℕ) (key : LinkKey) (f : Link × ℕ) → HasLinkOf old e.0.addrs j key f → HasLinkOf new e.0.addrs j key f
    has_now j key f has = (has.0, stands j key has.0 ∙ has.1)

    had : (j : ℕ) (key : LinkKey) (f : Link × ℕ) → HasLinkOf new e.0.addrs j key f → HasLinkOf old e.0.addrs j key f
    had j key f has = (has.0, sym (stands j key has.0) ∙ has.1)

    symmetric_now : (link : Link) → HasSymmetricOf old now e.0.addrs link → HasSymmetricOf new now e.0.addrs link
    symmetric_now link (j, key, until, of, is) = (j, key, until, has_now j key (link, until) of, is)

    symmetric_then : (link : Link) → HasSymmetricOf new now e.0.addrs link → HasSymmetricOf old now e.0.addrs link
    symmetric_then link (j, key, until, of, is) = (j, key, until, had j key (link, until) of, is)

    by_links : IsByLinks old now e.0 e.1 → IsByLinks new now e.0 e.1
    by_links b = record {
      latest = let (j, key, link, of) = b.latest in (j, key, link, has_now j key (link, e.1) of);
      no_later = λ j key link u of. b.no_later j key link u (had j key (link, u) of);
      symmetric = ((λ h. let (link, of) = b.symmetric.0 h in (link, symmetric_now link of)), (λ h. b.symmetric.1 (h.0, symmetric_then h.0 h.1)));
      metric_in = least_same e.0.metric_in (λ m h. (h.0, symmetric_now h.0 h.1, h.2)) (λ m h. (h.0, symmetric_then h.0 h.1, h.2)) b.metric_in;
      metric_out = least_same e.0.metric_out (λ m h. (h.0, symmetric_now h.0 h.1, h.2)) (λ m h. (h.0, symmetric_then h.0 h.1, h.2)) b.metric_out;
    }

    restores : Restores new now (Some e) (Some e)
    restores = let s = S.neighbour o e.0 e.1 at in record { addrs = refl; willing = refl; selector = and_same e.0.selector e.0.symmetric s.selector; by_links = by_links s.by_links }

  -- what is left of the neighbours before is as its links have it
  pub rests : (o : Addr4) (mid : Option (Neighbour × ℕ)) → IsKept (λ e. Matches told.originator told.listed o e.0 → ⊥) (neighbour_at old o) mid → Restores new now mid mid
  rests o None kept = refl
  rests o (Some e) kept = let (other, at) = kept_from (λ (x : Neighbour × ℕ). Matches told.originator told.listed o x.0 → ⊥) (neighbour_at old o) (Some e) e kept refl in restores o e at other

  -- a link stands whose key is neither listed nor an address of a neighbour that the HELLO speaks of
  pub untouched : (j : ℕ) (key : LinkKey) (f : Link × ℕ) → link_at old j key ≡ Some f → (IsTheirs old told key.addr → ⊥) → link_at new j key ≡ link_at old j key
  untouched j key f there not_theirs =
      let (p, n, u, at_p, all) = S.owner j key f.0 f.1 there in
      let has = all key.addr (contains_at f.0.addrs 0 key.addr (S.link j key f.0 f.1 there).least) in
      stands p (n, u) at_p (λ m. not_theirs (p, n, u, at_p, m, has)) j key has

  -- Lost addresses: those of the neighbours that the HELLO speaks of alone can change

  module _ (kept : (o : Addr4) → o ≢ told.originator → IsKept (λ e. Matches told.originator told.listed o e.0 → ⊥) (neighbour_at old o) (neighbour_at new o)) where
    -- a neighbour after the HELLO with another originator was there
    was_there : (p : Addr4) (n : Neighbour) (u : ℕ) → p ≢ told.originator → neighbour_at new p ≡ Some (n, u) → (Matches told.originator told.listed p n → ⊥) × (neighbour_at old p ≡ Some (n, u))
    was_there p n u other at = kept_from (λ (x : Neighbour × ℕ). Matches told.originator told.listed p x.0 → ⊥) (neighbour_at old p) (neighbour_at new p) (n, u) (kept p other) at

    module _ (a : Addr4) (was_theirs : IsTheirSymmetric old told a → ⊥) where
      -- a symmetric address before that is no such neighbour's is one after
      pub is_still : IsSymmetricAddress old a → (IsSymmetricAddress new a → ⊥) → ⊥
      is_still (o, n, u, at, symmetric, has) not = elim (same_address o told.originator) [
        | inl same ↦ was_theirs (o, n, u, at, (symmetric, inl same), has)
        | inr other ↦ by_case (neighbour_at old o) at (kept o other)
      ] where
        by_case : (x : Option (Neighbour × ℕ)) → x ≡ Some (n, u) → IsKept (λ e. Matches told.originator told.listed o e.0 → ⊥) x (neighbour_at new o) → ⊥
        by_case None is k = none_not refl is
        by_case (Some e) is (inl k) = not (o, n, u, k.1 ∙ is, symmetric, has)
        by_case (Some e) is (inr k) = k.0 (λ m. was_theirs (o, n, u, at, (symmetric, subst (λ (x : Neighbour × ℕ). Matches told.originator told.listed o x.0) (same_some refl is) m), has))

    no_lost : (a : Addr4) (n : Neighbour) (p : Addr4) (u : ℕ) → p ≢ told.originator → neighbour_at new p ≡ Some (n, u) → IsTrue n.symmetric → Contains n.addrs a → lost_at old a ≡ None
    no_lost a n p u other at symmetric has = by_case (lost_at old a) refl where
      by_case : (x : Option (Lost × ℕ)) → lost_at old a ≡ x → x ≡ None
      by_case None is = refl
      by_case (Some e) is = absurd (S.lost a e is (p, n, u, (was_there p n u other at).1, symmetric, has))

    pub settles : (before : List Addr4) (until : ℕ) (a : Addr4) → HasDistinctKeys addr_eq new.neighbours → (Contains before a ↔ IsTheirSymmetric old told a)
        → SettlesLost (Contains before a) (Contains (symmetric_at (neighbour_at new told.originator)) a) until (lost_at old a) (lost_at new a)
        → SettlesLost (IsSymmetricAddress old a) (IsSymmetricAddress new a) until (lost_at old a) (lost_at new a)
    settles before until a distinct before_is (Back is gone) = let (n, u, at, symmetric, has) = at_symmetric (neighbour_at new told.originator) a is in Back (told.originator, n, u, at, symmetric, has) gone
    settles before until a distinct before_is (Gone was not_is stands) =
        let (o, m, v, at_o, (symmetric, matches), has) = before_is.0 was in
        Gone (o, m, v, at_o, symmetric, has) (λ after. (
        let (p, n, u, at_p, symmetric', has') = after in elim (same_address p told.originator) [
          | inl same ↦ not_is (symmetric_is (neighbour_at new told.originator) a n u (subst (λ (q : Addr4). neighbour_at new q ≡ Some (n, u)) same at_p) symmetric' has')
          | inr other ↦
              let (apart, at_old) = was_there p n u other at_p in
              let (same, is) = its p (n, u) at_old apart o m v a at_o has has' in
              apart (subst (λ (q : Addr4). Matches told.originator told.listed q n) same (subst (λ (x : Neighbour × ℕ). Matches told.originator told.listed o x.0) is matches))
        ])) stands
    settles before until a distinct before_is (Stays not_was not_is stays) = elim (symmetric_or_not new distinct a) [
      | inl after ↦
          let (p, n, u, at_p, symmetric, has) = after in elim (same_address p told.originator) [
            | inl same ↦ absurd (not_is (symmetric_is (neighbour_at new told.originator) a n u (subst (λ (q : Addr4). neighbour_at new q ≡ Some (n, u)) same at_p) symmetric has))
            | inr other ↦ Back after (stays ∙ no_lost a n p u other at_p symmetric has)
          ]
      | inr none ↦ Stays (λ was. is_still a (λ theirs. not_was (before_is.1 theirs)) was none) none stays
    ]
