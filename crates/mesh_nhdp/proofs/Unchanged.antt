-- Where nothing becomes of the links, nothing becomes of the neighbours.
use Rattle.mesh_nhdp.proofs.Common.{common_steps, ◌≡◌, ℕ, ◌+◌, ◌<◌, ◌≤◌, ◌⊎◌, ◌↔◌, inl, inr, refl, sym, ◌∙◌, ap, subst, arith, List, [], length, Option, Some, None, IsTrue, Bool, true, false, cond, nat_lt, nat_eq, ◌&&◌, IsDistinct, IsEquivalence, get_or_past, Addr4, Metric, LinkKey, TwoHopKey, Link, TwoHop, Neighbour, Lost, RouterSettings, Base, HasDistinctKeys, Expires, IsFresh, find, base_of, if_live, addr_eq, link_eq, two_hop_eq, admit_on, rule_of, Neighbourhood, is_symmetric, link_at, two_hop_at, neighbour_at, lost_at, LiveNeighbourhood, trimmed, trim, is_symmetric_entry, is_symmetric_at, HasSymmetricOf, IsByLinks, Restores, IsSymmetricAddress, SettlesLost, SoundNeighbourhood, addr_equiv, two_hop_equiv, none_not, IsLinkUnchanged, AllStay, live_from, least_same}
use Rattle.mesh_nhdp.specs.Staying.{LinksStay, AllIsAsItWas, ExpiresBeside}
use Rattle.mesh_nhdp.proofs.Bases.{base_cases}
use Rattle.mesh_nhdp.proofs.BesideWalk.{some_gone}
use Rattle.mesh_nhdp.proofs.Limits.{no_more}
use Rattle.mesh_nhdp.proofs.LiveSound.{live_sound}
use Rattle.mesh_nhdp.proofs.SymmetricAddresses.{symmetric_or_not}
use Rattle.mesh_nhdp.proofs.Touched.{and_same}

-- A link of which nothing becomes

written_out : (link : Link) (o : Option Metric) (s : Bool) → link.link_out ≡ o → link.selector ≡ s → record link { link_out = o; selector = s } ≡ link
written_out link o s is_out is_selector = rw (← is_out, ← is_selector) refl

trimmed_same : (now : ℕ) (e : Link × ℕ) → (is_symmetric e.0 now ≡ false → e.0.link_out ≡ None) → (is_symmetric e.0 now ≡ false → e.0.selector ≡ false) → trimmed now e ≡ e
trimmed_same now e out selector = grind (arith, common_steps, written_out)

kept_live : {V : Type 0} (now : ℕ) (e : V × ℕ) → nat_lt now e.1 ≡ true → if_live now (Some e) ≡ Some e
kept_live now e live = rw live refl

still_there : (settings : RouterSettings) (i last now : ℕ) (o : Option (Link × ℕ)) → ((e : Link × ℕ) → o ≡ Some e → IsLinkUnchanged (rule_of settings i) settings.times.link_hold last now e)
    → ((e : Link × ℕ) → o ≡ Some e → trimmed now e ≡ e) → o ≡ trim now (if_live now (admit_on settings i now o))
still_there settings i last now o stays same = grind (arith, common_steps, kept_live)

symmetric_entry : (last now : ℕ) (o : Option (Link × ℕ)) → ((e : Link × ℕ) → o ≡ Some e → is_symmetric e.0 now ≡ is_symmetric e.0 last) → is_symmetric_entry now o ≡ is_symmetric_entry last o
symmetric_entry last now o same = grind (arith, common_steps)

two_hop_there : (now : ℕ) (b : Bool) (o new : Option (TwoHop × ℕ)) → new ≡ if_live now o → ((t : TwoHop × ℕ) → o ≡ Some t → b ≡ true) → new ≡ cond b (if_live now o) None
two_hop_there now b o new is there = grind (arith, common_steps)

lost_there : (now : ℕ) (was : Type 0) (until : ℕ) (o new : Option (Lost × ℕ)) → new ≡ if_live now o → ((e : Lost × ℕ) → o ≡ Some e → was → ⊥) → was ⊎ (was → ⊥) → SettlesLost was was until (if_live now o) new
lost_there now was until o new is none h7 = grind (arith, common_steps)

-- The whole

module _ (settings : RouterSettings) (last now : ℕ) (old : Neighbourhood) (S : SoundNeighbourhood settings last old) (stay : LinksStay settings last now old.links) where
  links_there : (i : ℕ) (key : LinkKey) → link_at old i key ≡ trim now (if_live now (admit_on settings i now (link_at old i key)))
  links_there i key = still_there settings i last now (link_at old i key) (stay i key) (λ e is. (
      let s = stay i key e is in
      let sound = S.link i key e.0 e.1 is in
      trimmed_same now e (λ not. sound.link_out (sym s.symmetric ∙ not)) (λ not. sound.selector (sym s.symmetric ∙ not))))

  symmetric_so : (i : ℕ) (key : LinkKey) → is_symmetric_at old now i key ≡ is_symmetric_at old last i key
  symmetric_so i key = symmetric_entry last now (link_at old i key) (λ e is. (stay i key e is).symmetric)

  symmetric_of : (addrs : List Addr4) (link : Link) → HasSymmetricOf old last addrs link → HasSymmetricOf old now addrs link
  symmetric_of addrs link (i, key, until, of, is) = (i, key, until, of, (stay i key (link, until) of.1).symmetric ∙ is)

  symmetric_then : (addrs : List Addr4) (link : Link) → HasSymmetricOf old now addrs link → HasSymmetricOf old last addrs link
  symmetric_then addrs link (i, key, until, of, is) = (i, key, until, of, sym (stay i key (link, until) of.1).symmetric ∙ is)

  by_links_now : (two_hops : List (Base TwoHopKey TwoHop)) (losts : Base Addr4 Lost) (n : Neighbour) (until : ℕ) → IsByLinks old last n until
      → IsByLinks (record { links = old.links; two_hops = two_hops; neighbours = old.neighbours; losts = losts }) now n until
  by_links_now two_hops losts n until b = record {
    latest = b.latest;
    no_later = b.no_later;
    symmetric = ((λ h. let (link, of) = b.symmetric.0 h in (link, symmetric_of n.addrs link of)), (λ h. b.symmetric.1 (h.0, symmetric_then n.addrs h.0 h.1)));
    metric_in = least_same n.metric_in (λ m h. (h.0, symmetric_of n.addrs h.0 h.1, h.2)) (λ m h. (h.0, symmetric_then n.addrs h.0 h.1, h.2)) b.metric_in;
    metric_out = least_same n.metric_out (λ m h. (h.0, symmetric_of n.addrs h.0 h.1, h.2)) (λ m h. (h.0, symmetric_then n.addrs h.0 h.1, h.2)) b.metric_out;
  }

  restores_there : (two_hops : List (Base TwoHopKey TwoHop)) (losts : Base Addr4 Lost) (o : Addr4) (e : Option (Neighbour × ℕ)) → neighbour_at old o ≡ e
      → Restores (record { links = old.links; two_hops = two_hops; neighbours = old.neighbours; losts = losts }) now e e
  restores_there two_hops losts o None is = refl
  restores_there two_hops losts o (Some e) is =
      let s = S.neighbour o e.0 e.1 is in
      record { addrs = refl; willing = refl; selector = and_same e.0.selector e.0.symmetric s.selector; by_links = by_links_now two_hops losts e.0 e.1 s.by_links }

  module _ (two_hops : List (Base TwoHopKey TwoHop)) (losts : Base Addr4 Lost) where
    pub stays_live : length two_hops ≡ length old.two_hops → ((i : ℕ) → HasDistinctKeys two_hop_eq (base_of two_hops i)) → HasDistinctKeys addr_eq losts → ((i : ℕ) → Expires two_hop_eq now (base_of old.two_hops i) (base_of two_hops i)) →
        Expires addr_eq now old.losts losts → LiveNeighbourhood settings now old (record { links = old.links; two_hops = two_hops; neighbours = old.neighbours; losts = losts })
    stays_live same distinct distinct_losts expires expires_losts = record {
      tables = record { links = S.distinct_links; two_hops = distinct; neighbours = S.distinct_neighbours; losts = distinct_losts };
      interfaces = refl;
      two_hop_interfaces = same;
      links = links_there;
      two_hops = λ i key. two_hop_there now (is_symmetric_at old now i key.link) (two_hop_at old i key) (find two_hop_eq (base_of two_hops i) key) (expires i key) (λ t is. symmetric_so i key.link ∙ S.two_hop i key t is);
      neighbours = λ o. restores_there two_hops losts o (neighbour_at old o) refl;
      losts = λ a. lost_there now (IsSymmetricAddress old a) (now + settings.times.neighbour_hold) (lost_at old a) (find addr_eq losts a) (expires_losts a) (λ e is. S.lost a e is) (symmetric_or_not old S.distinct_neighbours a);
    }

-- Interface by interface

pub links_stay_all : (settings : RouterSettings) (last now : ℕ) (links : List (Base LinkKey Link)) (i : ℕ) → length links ≤ i
    → ((k : ℕ) → k < i → AllStay (rule_of settings k) settings.times.link_hold last now (base_of links k)) → LinksStay settings last now links
links_stay_all settings last now links i all stay k = elim (base_cases links k) [
  | inl there ↦ stay k (let lt = there.0 in omega (arith, lt, all))
  | inr past ↦ λ key e found. none_not (ap (λ (b : Base LinkKey Link). find link_eq b key) past.1) found
]

-- Which tuples go

fresh_if_same : {K V : Type 0} (eq : K → K → Bool) (now : ℕ) (base : Base K V) → Expires eq now base base → IsFresh eq now base
fresh_if_same eq now base expires q v until at = (live_from now (find eq base q) (v, until) (sym (expires q) ∙ at)).1

none_goes : {K V : Type 0} {eq : K → K → Bool} → IsEquivalence eq → (now : ℕ) (old new : Base K V) → HasDistinctKeys eq old → IsFresh eq now old → Expires eq now old new → length old ≤ length new
none_goes laws now old new distinct fresh expires = no_more laws old new distinct (λ key e at. (e, expires key ∙ (ap (λ o. if_live now o) at ∙ kept_live now e (fresh key e.0 e.1 at))))

pub as_it_was : (settings : RouterSettings) (last now : ℕ) (same : Bool) (old new : Neighbourhood) → SoundNeighbourhood settings last old → LinksStay settings last now old.links → ExpiresBeside now same old new → IsTrue same ↔ AllIsAsItWas settings last now old
as_it_was settings last now same old new S stay E = (to, from same refl)
  where
    to : IsTrue same → AllIsAsItWas settings last now old
    to h =
        let is : new ≡ old = E.unchanged h in
        record {
          links = stay;
          two_hops = λ i. fresh_if_same two_hop_eq now (base_of old.two_hops i) (subst (λ (n : Neighbourhood). Expires two_hop_eq now (base_of old.two_hops i) (base_of n.two_hops i)) is (E.two_hops i));
          losts = fresh_if_same addr_eq now old.losts (subst (λ (n : Neighbourhood). Expires addr_eq now old.losts n.losts) is E.losts);
        }

    from : (b : Bool) → same ≡ b → AllIsAsItWas settings last now old → IsTrue same
    from true is all = is
    from false is all = absurd (elim (E.changed is) [
      | inl less ↦ (let h = none_goes two_hop_equiv now (base_of old.two_hops less.0) (base_of new.two_hops less.0) (S.two_hops less.0).distinct (all.two_hops less.0) (E.two_hops less.0) in omega (arith, h, less.1))
      | inr less ↦ (let h = none_goes addr_equiv now old.losts new.losts S.distinct_losts all.losts E.losts in omega (arith, h, less))
    ])

-- the calls on the fields of a neighbourhood
module _ (now : ℕ) (links : List (Base LinkKey Link)) (two_hops after : List (Base TwoHopKey TwoHop)) (neighbours : Base Addr4 Neighbour) (losts losts_after : Base Addr4 Lost) (first same : Bool) (gone : ℕ)
    (lengths : length after ≡ length two_hops)
    (each : (i : ℕ) → i < length two_hops → Expires two_hop_eq now (base_of two_hops i) (base_of after i)) (distinct : (i : ℕ) → i < length two_hops → HasDistinctKeys two_hop_eq (base_of after i))
    (unchanged : first ≡ true → after ≡ two_hops) (changed : first ≡ false → (i : ℕ) × (length (base_of after i) < length (base_of two_hops i)))
    (expires : Expires addr_eq now losts losts_after) (distinct_losts : HasDistinctKeys addr_eq losts_after) (count : gone + length losts_after ≡ length losts) (none : gone ≡ 0 → losts_after ≡ losts)
    (is : same ≡ (first && nat_eq gone 0)) where
  all_distinct : (i : ℕ) → HasDistinctKeys two_hop_eq (base_of after i)
  unfolding IsDistinct
  all_distinct i = grind (arith, common_steps, base_cases)

  all_expire : (i : ℕ) → Expires two_hop_eq now (base_of two_hops i) (base_of after i)
  all_expire i = grind (arith, common_steps, base_cases, get_or_past)

  what_changed : (b : Bool) → first ≡ b → same ≡ false → ((i : ℕ) × (length (base_of after i) < length (base_of two_hops i))) ⊎ (length losts_after < length losts)
  what_changed b at h = grind (arith, common_steps, some_gone)

  pub beside_is : ExpiresBeside now same (record { links = links; two_hops = two_hops; neighbours = neighbours; losts = losts }) (record { links = links; two_hops = after; neighbours = neighbours; losts = losts_after })
  beside_is = grind (arith, common_steps, all_distinct, all_expire, what_changed)

-- expiry, where nothing becomes of links
pub beside_live : (settings : RouterSettings) (last now : ℕ) (same : Bool) (old new : Neighbourhood) → SoundNeighbourhood settings last old → LinksStay settings last now old.links → ExpiresBeside now same old new → LiveNeighbourhood settings now old new
beside_live settings last now same old new S stay E =
    let is : record { links = old.links; two_hops = new.two_hops; neighbours = old.neighbours; losts = new.losts } ≡ new =
    ap (λ (ls : List (Base LinkKey Link)). let n : Neighbourhood = record { links = ls; two_hops = new.two_hops; neighbours = old.neighbours; losts = new.losts } in n) (sym E.links)
    ∙ ap (λ (ns : Base Addr4 Neighbour). let n : Neighbourhood = record { links = new.links; two_hops = new.two_hops; neighbours = ns; losts = new.losts } in n) (sym E.neighbours) in
    subst (λ (n : Neighbourhood). LiveNeighbourhood settings now old n) is (stays_live settings last now old S stay new.two_hops new.losts E.interfaces E.distinct_two_hops E.distinct_losts E.two_hops E.losts)

pub beside_sound : (settings : RouterSettings) (last now : ℕ) (same : Bool) (old new : Neighbourhood) → SoundNeighbourhood settings last old → LinksStay settings last now old.links → ExpiresBeside now same old new → SoundNeighbourhood settings now new
beside_sound settings last now same old new S stay E =
    live_sound settings last now old new S (beside_live settings last now same old new S stay E) (let least = settings.times.sound.neighbour_hold_range.least in omega (arith, least))
