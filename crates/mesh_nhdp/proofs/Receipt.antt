-- The taking of a HELLO, as the calls on the fields of a neighbourhood leave them.
use Rattle.mesh_nhdp.proofs.Common.{◌≡◌, ℕ, ◌+◌, ◌<◌, ◌⊎◌, ◌↔◌, refl, sym, ◌∙◌, ap, subst, List, length, Contains, None, Bool, true, false, false≢true, Addr4, Hello, LinkKey, TwoHopKey, TwoHop, Neighbour, Lost, Admit, RouterSettings, Base, base_of, find, two_hop_eq, Neighbourhood, HasAddress, rule_of, Told, Tells, AfterHello, IsFault, SoundNeighbourhood, Replaces, key_at, FollowsLinksOf, RenewsNeighbour, IsSpokenAddress, IsSymmetricSpokenAddress}
use Rattle.mesh_nhdp.specs.Hearings.{HearsInterfaces, HearsLinks}
use Rattle.mesh_nhdp.proofs.Hears.{hears_is}
use Rattle.mesh_nhdp.proofs.Whole.{Starts, Goes_on, Anew}

-- the tuples of the link start as the link does
starts_by : (rule : Admit) (old new : Neighbourhood) (i : ℕ) (told : Told) (theirs : List Addr4) (keys : List LinkKey) (own : List Addr4) (hold now : ℕ) (hello : Hello) →
    (H : HearsInterfaces rule told.shown told.least theirs told.listed keys own hold now i hello old new) → Starts old i told (base_of H.mids i) H.updates.started
starts_by rule old new i told theirs keys own hold now hello H = by_case H.stood refl
  where
    by_case : (b : Bool) → H.stood ≡ b → Starts old i told (base_of H.mids i) H.updates.started
    by_case true is = let (e, at, same) = H.stood_is.0 is in Goes_on e at same (λ key. ap (λ (b : Base TwoHopKey TwoHop). find two_hop_eq b key) (H.updates.goes_on is))
    by_case false is = Anew (λ e at same. false≢true (sym is ∙ H.stood_is.1 (e, at, same))) (H.updates.anew is)

-- the links, as the calls leave them
pub links_heard : (rule r : Admit) (told : Told) (theirs listed own : List Addr4) (keys seen_keys : List LinkKey) (hold now i : ℕ) (hello : Hello) (old new : Neighbourhood) →
    rule ≡ r → listed ≡ told.listed → seen_keys ≡ keys → ((a : Addr4) → Contains theirs a ⊎ Contains listed a → Contains keys (key_at a)) →
    HearsInterfaces rule told.shown told.least theirs listed seen_keys own hold now i hello old new → HearsLinks r told theirs own hold now i hello old new
links_heard rule r told theirs listed own keys seen_keys hold now i hello old new rule_is listed_is keys_is keys_are H = record {
  keys = keys;
  keys_are = subst (λ (xs : List Addr4). (a : Addr4) → Contains theirs a ⊎ Contains xs a → Contains keys (key_at a)) listed_is keys_are;
  hears = subst (λ (xs : List Addr4). HearsInterfaces r told.shown told.least theirs xs keys own hold now i hello old new) listed_is
      (subst (λ (ks : List LinkKey). HearsInterfaces r told.shown told.least theirs listed ks own hold now i hello old new) keys_is
      (subst (λ (x : Admit). HearsInterfaces x told.shown told.least theirs listed seen_keys own hold now i hello old new) rule_is H));
}

pub receipt_runs : (settings : RouterSettings) (now i : ℕ) (sender : Addr4) (told : Told) (hello : Hello) (old mid new : Neighbourhood) (theirs seen_theirs own before seen_before : List Addr4) →
    Tells settings i sender hello told → IsFault settings sender hello None → 0 < told.shown.validity → SoundNeighbourhood settings now old → i < length settings.interfaces → ((a : Addr4) → Contains own a ↔ HasAddress settings a) →
    ((a : Addr4) → Contains before a ↔ IsSymmetricSpokenAddress old.neighbours told.originator told.listed a) → ((a : Addr4) → Contains theirs a ↔ IsSpokenAddress old.neighbours told.originator told.listed a) →
    seen_theirs ≡ theirs → seen_before ≡ before → HearsLinks (rule_of settings i) told seen_theirs own settings.times.link_hold now i hello old mid → RenewsNeighbour now told seen_before (now + settings.times.neighbour_hold) mid new →
    AfterHello settings now i told hello old new
receipt_runs settings now i sender told hello old mid new theirs seen_theirs own before seen_before T fault lasts S is_interface own_is before_is theirs_are theirs_is seen_is heard R =
    let hears = subst (λ (xs : List Addr4). HearsLinks (rule_of settings i) told xs own settings.times.link_hold now i hello old mid) theirs_is heard in
    let H = hears.hears in
    let until = now + settings.times.neighbour_hold in
    let after : Neighbourhood = record mid { neighbours = new.neighbours; losts = new.losts } in
    let replaces = subst (λ (b : Base Addr4 Neighbour). Replaces told.originator told.listed told.willing told.routing now b R.replaced) (ap (λ (n : Neighbourhood). n.neighbours) H.rest) R.replaces in
    let follows = subst (λ (b : List Addr4). FollowsLinksOf now told.originator told.listed b until (record mid { neighbours = R.replaced; losts = old.losts }) after) seen_is
    (subst (λ (b : Base Addr4 Lost). FollowsLinksOf now told.originator told.listed seen_before until (record mid { neighbours = R.replaced; losts = b }) after) (ap (λ (n : Neighbourhood). n.losts) H.rest)
    (subst (FollowsLinksOf now told.originator told.listed seen_before until (record mid { neighbours = R.replaced })) R.follows.rest R.follows)) in
    subst (AfterHello settings now i told hello old) (sym R.follows.rest)
    (hears_is settings now i sender told hello old T fault lasts S is_interface mid.links H.mids mid.two_hops R.replaced new.neighbours new.losts H.updates.started theirs before hears.keys now theirs_are before_is hears.keys_are H.same_links H.same_mids H.same
    H.each H.elsewhere H.updates.distinct (starts_by (rule_of settings i) old mid i told theirs hears.keys own settings.times.link_hold now hello H) (λ symmetric. H.updates.rows symmetric settings told own_is refl) H.updates.no_rows replaces follows)
