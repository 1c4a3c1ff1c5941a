-- The definitions of a router refuse wrong states.
use Rattle.mesh_laws.proofs.Common.{common_steps, ◌≡◌, ℕ, ◌+◌, ◌<◌, inl, inr, refl, sym, ◌∙◌, ap, subst, arith, slice_index_or, length, Option, Some, None, IsTrue, Contains, cases_Bool, Addr4, NetAddr, Hello, LinkStatus, Heard, TcRow, LinkKey, Pending as Is_pending, Symmetric as Is_symmetric, Link, TwoHop, Route, RouterSettings, GivesAsSelector, IsTcRow, Of_address, Of_network, AfterHello, StoodOn, Same_link, New_link, TellsTwoHop, By_row, By_none, host, Says, Link_symmetric, Other_symmetric, link_part, Told, is_symmetric_at, IsBefore, IsAtMost, admitted, State, Neighbourhood, two_hop_at, state_of, HasLink, IsValue, true_false, none_not}
use Rattle.std.proofs.lemmas.Option.{slice_get_within, get_or_from_slice_get}
use Rattle.mesh_atoms.specs.declared.hello.LinkStatus.TheVariants.{Lost as Down, Symmetric}
use Rattle.mesh_atoms.specs.declared.tuples.LinkState.TheVariants.{Lost as Is_lost, Heard as Is_heard}
use Rattle.mesh_laws.proofs.Qualities.{no_later}
use Rattle.mesh_laws.proofs.TcSets.{numbered_so}
use Rattle.mesh_laws.specs.WrongStates.{RefusesExpiredLink, RefusesOwnTwoHop, RefusesTwoHopOfEndedLink, RefusesTupleOfOldNumber, RefusesHiddenNeighbour, RefusesPendingTold, RefusesRowOfNoSelector, RefusesTwoHopOnHeardLink, RefusesNeighbourWithoutLink, RefusesDearerRelays, RefusesGreaterParent, RefusesRouteTwice, RefusesTupleTooMany, RefusesStaleTuple}
use Rattle.mesh_paths.proofs.SettledDecisions.{shows_link}

-- Expiry, HELLOs and TCs

pub expired_link : RefusesExpiredLink
expired_link settings now old new i key link until e stood late stands live = grind (arith, common_steps, admitted, no_later, none_not)

-- the tuple of an address of the sending link
after : {settings : RouterSettings} {now i : ℕ} {told : Told} {hello : Hello} {old new : Neighbourhood} (a : Addr4) (t : TwoHop × ℕ) →
    two_hop_at new i (record { link = told.least; addr = a }) ≡ Some t → AfterHello settings now i told hello old new →
    (stood : Option (TwoHop × ℕ)) × StoodOn old i told a stood
    × TellsTwoHop settings told hello (now + told.shown.validity) a stood (two_hop_at new i (record { link = told.least; addr = a }))
after {now = now} {i = i} {told = told} {new = new} a t stands hello = elim (cases_Bool (is_symmetric_at new now i told.least)) [
  | inl h ↦ hello.two_hops h a
  | inr h ↦ none_not (hello.no_two_hops h a) stands
]

pub own_two_hop : RefusesOwnTwoHop
own_two_hop settings now i told hello old new a t mine none stands after_hello =
    let (stood, from, tells) = after a t stands after_hello in
    told_of tells (none_stood from)
  where
    none_stood : {stood : Option (TwoHop × ℕ)} → StoodOn old i told a stood → stood ≡ None
    none_stood (Same_link e at same) = none
    none_stood (New_link ended) = refl

    told_of : {stood : Option (TwoHop × ℕ)} → TellsTwoHop settings told hello (now + told.shown.validity) a stood (two_hop_at new i (record { link = told.least; addr = a })) → stood ≡ None → ⊥
    told_of (By_row row looks makes) f = looks.not_mine mine
    told_of (By_none quiet same) f = none_not (same ∙ f) stands

pub two_hop_of_ended_link : RefusesTwoHopOfEndedLink
two_hop_of_ended_link settings now i told hello old new e a t at other quiet stands after_hello =
    let (stood, from, tells) = after a t stands after_hello in
    told_of tells (none_stood from)
  where
    none_stood : {stood : Option (TwoHop × ℕ)} → StoodOn old i told a stood → stood ≡ None
    none_stood (Same_link f to same) = absurd (let is : e ≡ f = cc in other (ap (λ (g : Link × ℕ). g.0.addrs) is ∙ same))
    none_stood (New_link ended) = refl

    told_of : {stood : Option (TwoHop × ℕ)} → TellsTwoHop settings told hello (now + told.shown.validity) a stood (two_hop_at new i (record { link = told.least; addr = a })) → stood ≡ None → ⊥
    told_of (By_row row looks makes) f = quiet row looks
    told_of (By_none no_row same) f = none_not (same ∙ f) stands

pub tuple_of_old_number : RefusesTupleOfOldNumber
tuple_of_old_number now tc old new key t until complete mine stands other after_tc = grind (arith, common_steps, numbered_so)

pub hidden_neighbour : RefusesHiddenNeighbour
hidden_neighbour s i now hello a o n has hidden is = elim (shows_link s i now a) [
  | inl by_link ↦ (let (row, stands, same) = is.all a Link_symmetric by_link in hidden row stands same)
  | inr none ↦ (let (row, stands, same) = is.all a Other_symmetric ((o, n, has), none) in hidden row stands same)
]

-- no LINK_STATUS is said of an address whose links are PENDING
none_said : (s : State) (i now : ℕ) (a : Addr4) → ((key : LinkKey) (link : Link) → HasLink s i key link → Contains link.addrs a → state_of link now ≡ Is_pending) →
    (status : LinkStatus) → Says s i now a (link_part status) → ⊥
none_said s i now a pending Down (link, (key, has, on, is)) = absurd (let same : Is_lost ≡ Is_pending = sym is ∙ pending key link has on in cc)
none_said s i now a pending Symmetric (link, (key, has, on, is)) = absurd (let same : Is_symmetric ≡ Is_pending = sym is ∙ pending key link has on in cc)
none_said s i now a pending Heard (link, (key, has, on, is)) = absurd (let same : Is_heard ≡ Is_pending = sym is ∙ pending key link has on in cc)

pub pending_told : RefusesPendingTold
pending_told s i now hello row a status pending stands addr told is =
    let (b, says) = is.rows row stands in
    let same : b ≡ a = ap (λ (n : NetAddr). n.addr) (sym says.addr ∙ addr) in
    let said : IsValue (λ v. Says s i now a (link_part v)) row.link = subst (λ (c : Addr4). IsValue (λ v. Says s i now c (link_part v)) row.link) same says.link in
    none_said s i now a pending status (subst (λ (o : Option LinkStatus). IsValue (λ v. Says s i now a (link_part v)) o) told said)

pub row_of_no_selector : RefusesRowOfNoSelector
row_of_no_selector s rows row a stands dest routable none are = by_case ((are.exactly row).0 stands) dest routable
  where
    by_case : {row : TcRow} → IsTcRow s row → row.dest ≡ host a → IsTrue row.routable → ⊥
    by_case (Of_address b m to origin on gateway metric is) dest routable =
        let same : b ≡ a = ap (λ (n : NetAddr). n.addr) (sym to ∙ dest) in
        let P : Addr4 → Type 0 = λ c. GivesAsSelector s c is.giver m in
        none is.giver m (subst P same is.given)
    by_case (Of_network distance m origin off gateway metric is) dest routable = true_false routable off

-- Sound routers

pub two_hop_on_heard_link : RefusesTwoHopOnHeardLink
two_hop_on_heard_link settings now near i key t stands heard sound = true_false (sound.two_hop i key t stands) heard

pub neighbour_without_link : RefusesNeighbourWithoutLink
neighbour_without_link settings now near o n until stands none sound =
    let (i, key, link, has) = (sound.neighbour o n until stands).by_links.latest in
    none i key (link, until) has

pub dearer_relays : RefusesDearerRelays
dearer_relays g relays f c stands offered dearer covers =
    let (e, by_relays, low) = covers.as_cheap f c stands offered in
    absurd (omega (arith, low, dearer e by_relays))

not_after : (p q : NetAddr) → IsBefore p q → IsAtMost q p → ⊥
not_after p q before at_most = grind (arith, common_steps)

pub greater_parent : RefusesGreaterParent
greater_parent s now self row p stands fits before routes = not_after p row.parent before ((routes.parent row stands).least p fits)

pub route_twice : RefusesRouteTwice
route_twice s now self k l r t less first second same routes =
    let within : l < length s.routes = slice_get_within s.routes l t second in
    let order : IsBefore (slice_index_or s.routes k r).dest (slice_index_or s.routes l r).dest = routes.ordered k l r less within in
    let is_r : slice_index_or s.routes k r ≡ r = get_or_from_slice_get s.routes k r r first in
    let is_t : slice_index_or s.routes l r ≡ t = get_or_from_slice_get s.routes l t r second in
    let P : Route → Type 0 = λ b. IsBefore b.dest (slice_index_or s.routes l r).dest in
    let Q : Route → Type 0 = λ b. IsBefore r.dest b.dest in
    let R : NetAddr → Type 0 = λ b. IsBefore b t.dest in
    let itself : IsBefore t.dest t.dest = subst R same (subst Q is_t (subst P is_r order)) in
    elim itself [ inl x ↦ absurd (omega arith) | inr x ↦ absurd (omega (arith, x.1)) ]

-- Settled networks

pub tuple_too_many : RefusesTupleTooMany
tuple_too_many s states now x p q key t settled lacks has near also = elim (also.address_from key t has) [
  | inl stray ↦ near stray
  | inr given ↦ (let (w, r, peer, by) = given in lacks (settled.address_to w r key t peer by))
]

pub stale_tuple : RefusesStaleTuple
stale_tuple s states now x p key t has near none settled = elim (settled.address_from key t has) [
  | inl stray ↦ near stray
  | inr given ↦ (let (w, q, peer, by) = given in none w q t.metric peer by.from by.metric)
]
