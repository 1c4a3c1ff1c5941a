-- What is shown of an address, part by part.
use Rattle.mesh_hello.proofs.Common.{◌≡◌, ℕ, Bool, true, false, inl, inr, refl, sym, ◌∙◌, ap, subst, Contains, List, Option, Some, None, slice_get, IsTrue, ◌↔◌, is_some, Bor, false≢true, Addr4, Metric, LocalIf, This, Other, LinkStatus, Symmetric, Heard, Interface, RouterSettings, LinkKey, Link, Lost, Neighbour, Base, Has, status_said, Says, SaysLink, HasLinkTo, Link_in, Link_out, Near_in, Near_out, Flooding, Routing, link_part, local_part, other_part, IsValue, LinkState, Pending as Is_pending, State, state_of, HasLink, HasSymmetricWith, HasAddressOn, entry_of, IsLinkWith, IsNeighbourWith, AreDisjoint, IsLocalOn, IsRelayOf, IsFloodingRelayOver, link_status_said, other_said, link_in_said, link_out_said, near_in_said, near_out_said, same_some, none_not}
use Rattle.mesh_atoms.specs.declared.hello.LinkStatus.TheVariants.{Lost as Down}
use Rattle.mesh_atoms.specs.declared.hello.OtherStatus.TheVariants.{Lost as No_more, Symmetric as Still}
use Rattle.mesh_atoms.specs.declared.tuples.LinkState.TheVariants.{Lost as Is_lost, Symmetric as Is_symmetric, Heard as Is_heard}

pub lent : {K V : Type 0} (o : Option (Bor K × Bor V × ℕ)) (e : Bor K × Bor V × ℕ) → o ≡ Some e → entry_of o ≡ Some (e.0.now, (e.1.now, e.2))
lent o e is = ap entry_of is

pub relay_by : (relays : List Addr4) (neighbour : Option (Addr4 × (Neighbour × ℕ))) (e : Addr4 × (Neighbour × ℕ)) (b : Bool) → neighbour ≡ Some e →
    (IsTrue b ↔ Contains relays e.0) → IsTrue b ↔ IsRelayOf relays neighbour
relay_by relays neighbour e b is tells = (
  λ h. record { entry = e; is = is; has = tells.0 h },
  λ w. tells.1 (subst (λ (x : Addr4 × (Neighbour × ℕ)). Contains relays x.0) (same_some w.is is) w.has),
)

pub on_by : (settings : RouterSettings) (i : ℕ) (a : Addr4) (face : Interface) (b : Bool) → slice_get settings.interfaces i ≡ Some face →
    (IsTrue b ↔ Contains face.addrs a) → IsTrue b ↔ HasAddressOn settings i a
on_by settings i a face b at tells = (
  λ h. (face, at, tells.0 h),
  λ w. tells.1 (subst (λ (f : Interface). Contains f.addrs a) (same_some w.1 at) w.2),
)

-- the state of a link that a LINK_STATUS tells of
abbrev pub state_for : LinkStatus → LinkState
state_for Down = Is_lost
state_for Symmetric = Is_symmetric
state_for Heard = Is_heard

status_for : (status : LinkStatus) → status_said (state_for status) ≡ Some status
status_for Down = refl
status_for Symmetric = refl
status_for Heard = refl

-- each state is told of by a status of its own, or else by none
state_of_said : Option LinkStatus → LinkState
state_of_said None = Is_pending
state_of_said (Some status) = state_for status

said_back : (state : LinkState) → state_of_said (status_said state) ≡ state
unfolding state_of_said
said_back Is_pending = refl
said_back Is_lost = refl
said_back Is_symmetric = refl
said_back Is_heard = refl

state_told : (state : LinkState) (status : LinkStatus) → status_said state ≡ Some status → state ≡ state_for status
unfolding state_of_said
state_told state status h = sym (said_back state) ∙ ap state_of_said h

shows_part : (s : State) (i now : ℕ) (a : Addr4) (status : LinkStatus) → SaysLink s i now a (state_for status) → Says s i now a (link_part status)
shows_part s i now a Down h = h
shows_part s i now a Symmetric h = h
shows_part s i now a Heard h = h

part_shows : (s : State) (i now : ℕ) (a : Addr4) (status : LinkStatus) → Says s i now a (link_part status) → SaysLink s i now a (state_for status)
part_shows s i now a Down h = h
part_shows s i now a Symmetric h = h
part_shows s i now a Heard h = h

-- the link of interface i that has the address, in that state
abbrev pub IsLinkTo : State → ℕ → ℕ → Addr4 → LinkState → LinkKey × (Link × ℕ) → Type 0
IsLinkTo s i now a state e = HasLinkTo s i now a state e.1.0

-- a status that is another
abbrev is_heard : Option LinkStatus → Bool
is_heard (Some Heard) = true
is_heard status = false

abbrev pub is_symmetric : Option LinkStatus → Bool
is_symmetric (Some Symmetric) = true
is_symmetric status = false

not_heard : {status : Option LinkStatus} → is_heard status ≡ false → status ≡ Some Heard → ⊥
not_heard other h = false≢true (sym other ∙ ap is_heard h)

pub not_symmetric : {status : Option LinkStatus} → is_symmetric status ≡ false → status ≡ Some Symmetric → ⊥
not_symmetric other h = false≢true (sym other ∙ ap is_symmetric h)

-- what the status says of the link, and the links of the status: it is the one link that has the address
pub record IsStatus (s : State) (i now : ℕ) (a : Addr4) (link : Option (LinkKey × (Link × ℕ))) (status : Option LinkStatus) : Type 0 where
  pub told : (v : LinkStatus) → status ≡ Some v → (e : LinkKey × (Link × ℕ)) × (link ≡ Some e) × IsLinkTo s i now a (state_for v) e
  pub all : (v : LinkStatus) (l : Link) → HasLinkTo s i now a (state_for v) l → (status ≡ Some v) × ((e : LinkKey × (Link × ℕ)) × (link ≡ Some e) × (l ≡ e.1.0))

-- the neighbour is the one symmetric neighbour that has the address
pub record IsOnlyNeighbour (s : State) (a : Addr4) (neighbour : Option (Addr4 × (Neighbour × ℕ))) : Type 0 where
  pub told : (e : Addr4 × (Neighbour × ℕ)) → neighbour ≡ Some e → HasSymmetricWith s a e.0 e.1.0
  pub all : (o : Addr4) (n : Neighbour) → HasSymmetricWith s a o n → (e : Addr4 × (Neighbour × ℕ)) × (neighbour ≡ Some e) × (o ≡ e.0) × (n ≡ e.1.0)

module _ (s : State) (i now : ℕ) (a : Addr4) (links : Base LinkKey Link) (at : slice_get s.bases.neighbourhood.links i ≡ Some links)
    (apart : AreDisjoint links s.bases.neighbourhood.neighbours s.bases.neighbourhood.losts) where
  in_links : (key : LinkKey) (l : Link) → HasLink s i key l → Has links key l
  in_links key l (base, there, has) = let P : Base LinkKey Link → Type 0 = λ b. Has b key l in subst P (same_some there at) has

  pub is_status : (link : Option (LinkKey × (Link × ℕ))) → IsValue (IsLinkWith links a) link → IsStatus s i now a link (link_status_said link now)
  is_status None none = record {
    told = λ v h. none_not refl h;
    all = λ v l w. let (key, has, in', is) = w in let (until, stands) = in_links key l has in absurd (none (key, (l, until)) (stands, in'));
  }
  is_status (Some e) with' = record {
    told = λ v h. (e, refl, (e.0, (links, at, (e.1.1, with'.0)), with'.1, state_told (state_of e.1.0 now) v h));
    all = λ v l w.
        let (key, has, in', is) = w in
        let same' : l ≡ e.1.0 = apart.one_link a key e.0 l e.1.0 (in_links key l has) (e.1.1, with'.0) in' with'.1 in
        let P : Link → Type 0 = λ x. state_of x now ≡ state_for v in
        (ap status_said (subst P same' is) ∙ status_for v, (e, refl, same'));
  }

  pub is_only : (neighbour : Option (Addr4 × (Neighbour × ℕ))) → IsValue (IsNeighbourWith s.bases.neighbourhood.neighbours a) neighbour → IsOnlyNeighbour s a neighbour
  is_only None none = record {
    told = λ e h. none_not refl h;
    all = λ o n w. let ((has, is), in') = w in absurd (none (o, (n, has.0)) (has.1, is, in'));
  }
  is_only (Some e) with' = record {
    told = λ f h. let is : e ≡ f = same_some refl h in subst (λ (x : Addr4 × (Neighbour × ℕ)). HasSymmetricWith s a x.0 x.1.0) is (((e.1.1, with'.0), with'.1), with'.2);
    all = λ o n w. let ((has, is), in') = w in let (x, y) = apart.one_neighbour a o e.0 n e.1.0 has (e.1.1, with'.0) in' with'.2 in (e, refl, x, y);
  }

  -- Of the link

  module _ (link : Option (LinkKey × (Link × ℕ))) (status : Option LinkStatus) (is : IsStatus s i now a link status) where
    pub shows_not : (v : LinkStatus) → (status ≡ Some v → ⊥) → SaysLink s i now a (state_for v) → ⊥
    shows_not v not w = not ((is.all v w.0 w.1).0)

    link_at : (e : LinkKey × (Link × ℕ)) (v : LinkStatus) → link ≡ Some e → status ≡ Some v → HasLinkTo s i now a (state_for v) e.1.0
    link_at e v there h =
        let (f, there', to) = is.told v h in
        subst (λ (x : LinkKey × (Link × ℕ)). IsLinkTo s i now a (state_for v) x) (same_some there' there) to

  pub link_told : (link : Option (LinkKey × (Link × ℕ))) (status : Option LinkStatus) → IsStatus s i now a link status → IsValue (λ v. Says s i now a (link_part v)) status
  link_told link None is = λ v w. shows_not link None is v (none_not refl) (part_shows s i now a v w)
  link_told link (Some v) is = let (e, _, to) = is.told v refl in shows_part s i now a v (e.1.0, to)

  no_link_in : (link : Option (LinkKey × (Link × ℕ))) (status : Option LinkStatus) → IsStatus s i now a link status → (status ≡ Some Heard → ⊥) → (status ≡ Some Symmetric → ⊥) →
      (m : Metric) → Says s i now a (Link_in m) → ⊥
  no_link_in link status is not_heard not_symmetric m (l, inl h, _) = shows_not link status is Heard not_heard (l, h)
  no_link_in link status is not_heard not_symmetric m (l, inr h, _) = shows_not link status is Symmetric not_symmetric (l, h)

  pub link_in_told : (link : Option (LinkKey × (Link × ℕ))) (status : Option LinkStatus) → IsStatus s i now a link status → IsValue (λ m. Says s i now a (Link_in m)) (link_in_said status link)
  link_in_told link None is = no_link_in link None is (not_heard refl) (not_symmetric refl)
  link_in_told link (Some Down) is = no_link_in link (Some Down) is (not_heard refl) (not_symmetric refl)
  link_in_told None (Some Symmetric) is = let (e, there, _) = is.told Symmetric refl in none_not refl there
  link_in_told None (Some Heard) is = let (e, there, _) = is.told Heard refl in none_not refl there
  link_in_told (Some e) (Some Symmetric) is = (e.1.0, inr (link_at (Some e) (Some Symmetric) is e Symmetric refl refl), refl)
  link_in_told (Some e) (Some Heard) is = (e.1.0, inl (link_at (Some e) (Some Heard) is e Heard refl refl), refl)

  link_out_of : (e : LinkKey × (Link × ℕ)) (out : Option Metric) → e.1.0.link_out ≡ out → IsStatus s i now a (Some e) (Some Symmetric) → IsValue (λ m. Says s i now a (Link_out m)) out
  link_out_of e None none is = λ m w.
      let (f, there, same') = ((is.all Symmetric w.0 w.1).1) in
      let one : e ≡ f = same_some refl there in
      let both : w.0 ≡ e.1.0 = same' ∙ ap (λ (x : LinkKey × (Link × ℕ)). x.1.0) (sym one) in
      let out : w.0.link_out ≡ None = ap (λ (l : Link). l.link_out) both ∙ none in
      none_not out w.2
  link_out_of e (Some m) some is = (e.1.0, link_at (Some e) (Some Symmetric) is e Symmetric refl refl, some)

  pub link_out_told : (link : Option (LinkKey × (Link × ℕ))) (status : Option LinkStatus) → IsStatus s i now a link status → IsValue (λ m. Says s i now a (Link_out m)) (link_out_said status link)
  link_out_told link None is = λ m w. shows_not link None is Symmetric (not_symmetric refl) (w.0, w.1)
  link_out_told link (Some Down) is = λ m w. shows_not link (Some Down) is Symmetric (not_symmetric refl) (w.0, w.1)
  link_out_told link (Some Heard) is = λ m w. shows_not link (Some Heard) is Symmetric (not_symmetric refl) (w.0, w.1)
  link_out_told None (Some Symmetric) is = let (e, there, _) = is.told Symmetric refl in none_not refl there
  link_out_told (Some e) (Some Symmetric) is = link_out_of e e.1.0.link_out refl is

  -- Of the neighbour

  pub near_in_told : (neighbour : Option (Addr4 × (Neighbour × ℕ))) → IsOnlyNeighbour s a neighbour → IsValue (λ m. Says s i now a (Near_in m)) (near_in_said neighbour)
  near_in_told None is = λ m w. let (e, there, _, _) = is.all w.0 w.1 w.2 in none_not refl there
  near_in_told (Some e) is = by_metric e.1.0.metric_in refl where
    by_metric : (shown : Option Metric) → e.1.0.metric_in ≡ shown → IsValue (λ m. Says s i now a (Near_in m)) shown
    by_metric None none = λ m w.
        let (f, there, _, same') = is.all w.0 w.1 w.2 in
        let one : e ≡ f = same_some refl there in
        let out : w.1.metric_in ≡ None = ap (λ (n : Neighbour). n.metric_in) (same' ∙ ap (λ (x : Addr4 × (Neighbour × ℕ)). x.1.0) (sym one)) ∙ none in
        none_not out w.3
    by_metric (Some m) some = (e.0, e.1.0, is.told e refl, some)

  pub near_out_told : (neighbour : Option (Addr4 × (Neighbour × ℕ))) → IsOnlyNeighbour s a neighbour → IsValue (λ m. Says s i now a (Near_out m)) (near_out_said neighbour)
  near_out_told None is = λ m w. let (e, there, _, _) = is.all w.0 w.1 w.2 in none_not refl there
  near_out_told (Some e) is = by_metric e.1.0.metric_out refl where
    by_metric : (shown : Option Metric) → e.1.0.metric_out ≡ shown → IsValue (λ m. Says s i now a (Near_out m)) shown
    by_metric None none = λ m w.
        let (f, there, _, same') = is.all w.0 w.1 w.2 in
        let one : e ≡ f = same_some refl there in
        let out : w.1.metric_out ≡ None = ap (λ (n : Neighbour). n.metric_out) (same' ∙ ap (λ (x : Addr4 × (Neighbour × ℕ)). x.1.0) (sym one)) ∙ none in
        none_not out w.3
    by_metric (Some m) some = (e.0, e.1.0, is.told e refl, some)

  -- Of the neighbour and the link

  module _ (link : Option (LinkKey × (Link × ℕ))) where
    still : (e : Addr4 × (Neighbour × ℕ)) (status : Option LinkStatus) → IsOnlyNeighbour s a (Some e) → IsStatus s i now a link status → (status ≡ Some Symmetric → ⊥) → Says s i now a (other_part Still)
    still e status only is not = ((e.0, e.1.0, only.told e refl), λ w. shows_not link status is Symmetric not w)

    pub other_told : (status : Option LinkStatus) (neighbour : Option (Addr4 × (Neighbour × ℕ))) (lost : Bool) → IsStatus s i now a link status → IsOnlyNeighbour s a neighbour →
        (IsTrue lost ↔ ((l : Lost) × Has s.bases.neighbourhood.losts a l)) → IsValue (λ v. Says s i now a (other_part v)) (other_said status (is_some neighbour) lost)
    other_told status neighbour true is only tells = tells.0 refl
    other_told status None false is only tells = not_shown where
      not_shown : (v : _) → Says s i now a (other_part v) → ⊥
      not_shown No_more w = false≢true (tells.1 w)
      not_shown Still w = let (e, there, _, _) = only.all w.0.0 w.0.1 w.0.2 in none_not refl there
    other_told (Some Symmetric) (Some e) false is only tells = not_shown where
      not_shown : (v : _) → Says s i now a (other_part v) → ⊥
      not_shown No_more w = false≢true (tells.1 w)
      not_shown Still w = let (f, _, to) = is.told Symmetric refl in w.1 (f.1.0, to)
    other_told None (Some e) false is only tells = still e None only is (not_symmetric refl)
    other_told (Some Down) (Some e) false is only tells = still e (Some Down) only is (not_symmetric refl)
    other_told (Some Heard) (Some e) false is only tells = still e (Some Heard) only is (not_symmetric refl)

    pub flooding_told : (status : Option LinkStatus) (neighbour : Option (Addr4 × (Neighbour × ℕ))) → IsStatus s i now a link status → IsOnlyNeighbour s a neighbour →
        IsFloodingRelayOver s.relays.flooding i status neighbour ↔ Says s i now a Flooding
    flooding_told status neighbour is only = (
      (λ w.
          let (e, _, to) = is.told Symmetric w.symmetric in
          let f = w.relay.entry in
          let (_, _, in', _) = to in
          (e.1.0, to, f.0, f.1.0, a, in', only.told f w.relay.is, w.list, w.at, w.relay.has)),
      (λ w.
          let (l, to, o, n, b, in', with', list, there, has) = w in
          let (key, stands, mine, _) = to in
          let (p, m, owns, all) = apart.owner key l (in_links key l stands) in
          let ((holds, symmetric), _) = with' in
          let (_, same') = apart.one_neighbour b o p n m holds owns with'.1 (all b in') in
          let has' : Contains n.addrs a = subst (λ (x : Neighbour). Contains x.addrs a) (sym same') (all a mine) in
          let (f, is', one, _) = only.all o n ((holds, symmetric), has') in
          record {
            list = list;
            at = there;
            symmetric = (is.all Symmetric l to).0;
            relay = record { entry = f; is = is'; has = subst (Contains list) one has };
          }),
    )

  pub routing_told : (neighbour : Option (Addr4 × (Neighbour × ℕ))) → IsOnlyNeighbour s a neighbour → IsRelayOf s.relays.routing neighbour ↔ Says s i now a Routing
  routing_told neighbour only = (
    (λ w. let f = w.entry in (f.0, f.1.0, only.told f w.is, w.has)),
    (λ w. let (o, n, with', has) = w in let (f, is, one, _) = only.all o n with' in record { entry = f; is = is; has = subst (Contains s.relays.routing) one has }),
  )

  pub local_told : (local : Option LocalIf) → IsValue (IsLocalOn s.settings i a) local → IsValue (λ v. Says s i now a (local_part v)) local
  local_told None none = λ v w. not_shown v w where
    not_shown : (v : LocalIf) → Says s i now a (local_part v) → ⊥
    not_shown This w = none This w
    not_shown Other w = none Other w
  local_told (Some This) w = w
  local_told (Some Other) w = w
