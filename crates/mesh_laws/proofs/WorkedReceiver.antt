-- The router that hears the worked HELLOs, and what both of them tell it in the same way.
use Rattle.mesh_laws.proofs.Common.{arith, common_steps, ◌≡◌, ℕ, ◌⊎◌, inl, inr, refl, sym, ◌∙◌, ap, subst, List, [], ◌∷◌, Contains, slice_get, Option, Some, None, IsTrue, false, Addr4, NetAddr, Metric, LocalIf, This, LinkStatus, Hello, HelloRow, host, Interface, SenderMetric, RouterSettings, Told, Tells, HasRowOf, TellsLocal, IsHandedIn, IsMyStatus, IsLeastMetric, HasAddress, HasAddressOn, IsOwn, Local, Originator, Sender, IsFault, IsHeld, IsFullOfAddresses, Neighbourhood, peer, me, one, seven, own_row, no_relay, IsReceiver, only, few_of_one, contains_none as none_of, contains_head as here, none_is_some, some_equal}
use Rattle.mesh_atoms.specs.declared.hello.Mpr.{Mpr}
use Rattle.mesh_laws.proofs.OneAddress.{sending_one, listed_one}

-- The HELLOs

-- what a HELLO of the peer tells, by the status and the metric that it shows of the receiver
abbrev pub told_of : Option LinkStatus → Option Metric → Told
told_of status out = record {
  shown = record { sending = peer ∷ []; status = status; link_in = one; link_out = out; selector = false; validity = 49152 };
  least = record { addr = peer };
  listed = peer ∷ [];
  originator = peer;
  willing = seven;
  routing = false;
}

-- a HELLO of the peer, in which its own row alone is local, and no row chooses a relay
pub record IsOfPeer (hello : Hello) : Type 0 where
  pub originator : hello.originator ≡ Some peer
  pub willing : hello.willing ≡ seven
  pub validity : hello.validity ≡ 49152
  pub own : Contains hello.rows own_row
  pub rows : (row : HelloRow) → Contains hello.rows row → (row ≡ own_row) ⊎ ((row.local ≡ None) × (row.mpr ≡ no_relay))

-- the address of a known row
pub address_in : (a : Addr4) (row known : HelloRow) → row.addr ≡ host a → row ≡ known → a ≡ known.addr.addr
address_in a row known at e = ap (λ (n : NetAddr). n.addr) (sym at ∙ ap (λ (r : HelloRow). r.addr) e)

module _ (hello : Hello) (is : IsOfPeer hello) where
  own_told : TellsLocal hello peer This
  own_told = (own_row, (is.own, refl), refl)

  local_is : (a : Addr4) (local : LocalIf) → TellsLocal hello a local → (a ≡ peer) × (local ≡ This)
  local_is a local (row, (stands, at), shows) = elim (is.rows row stands) [
    | inl own ↦ (address_in a row own_row at own, sym (some_equal This local (sym (ap (λ (r : HelloRow). r.local) own) ∙ shows)))
    | inr other ↦ none_is_some (sym other.0 ∙ shows)
  ]

  no_relays : (row : HelloRow) → Contains hello.rows row → row.mpr ≡ no_relay
  no_relays row stands = elim (is.rows row stands) [ inl own ↦ ap (λ (r : HelloRow). r.mpr) own | inr other ↦ other.1 ]

-- The addresses

pub peer_not_me : peer ≡ me → ⊥
peer_not_me e = let f : ◌≡◌ {A = ℕ} 167772161 167772162 = ap (λ (a : Addr4). a.0) e in absurd (omega arith)

-- where the peer's address alone is held, the HELLO's are not too many
pub not_full : (near : Neighbourhood) (status : Option LinkStatus) (out : Option Metric) → ((a : Addr4) → IsHeld near a → a ≡ peer) →
    IsFullOfAddresses near (told_of status out) → ⊥
not_full near status out held_is many =
    let (some, distinct, held, more) = many in
    few_of_one peer some distinct (λ a c. is_peer a (held a c)) more
  where
    is_peer : (a : Addr4) → (IsHeld near a ⊎ (Contains (peer ∷ []) a ⊎ (a ≡ peer))) → a ≡ peer
    is_peer a held = elim held [
      | inl stands ↦ held_is a stands
      | inr (inl listed) ↦ only peer a listed
      | inr (inr e) ↦ e
    ]

module _ (settings : RouterSettings) (r : IsReceiver settings) where
  pub face_is : (i : ℕ) (face : Interface) → slice_get settings.interfaces i ≡ Some face → (i ≡ 0) × (face ≡ r.face)
  face_is i face at = grind (arith, common_steps, none_is_some)

  pub face_at : slice_get settings.interfaces 0 ≡ Some r.face
  face_at = let P : List Interface → Type 0 = λ b. slice_get b 0 ≡ Some r.face in subst P (sym r.interfaces) refl

  pub mine_is : (i : ℕ) (a : Addr4) → HasAddressOn settings i a → a ≡ me
  mine_is i a on = grind (arith, common_steps, face_is)

  pub mine : HasAddressOn settings 0 me
  mine = (r.face, face_at, (let P : List Addr4 → Type 0 = λ b. Contains b me in subst P (sym r.addrs) (here me [])))

  -- what a HELLO of the peer tells this router
  pub tells_of : (hello : Hello) (status : Option LinkStatus) (out : Option Metric) → IsOfPeer hello → IsMyStatus settings 0 hello status →
      IsLeastMetric (λ m. (a : Addr4) × (row : HelloRow) × HasAddressOn settings 0 a × HasRowOf hello a row × (row.metrics.link_in ≡ Some m)) out →
      Tells settings 0 peer hello (told_of status out)
  tells_of hello status out is shown metric = record {
    sending = sending_one hello peer (own_told hello is) (local_is hello is);
    least = refl;
    listed = listed_one hello peer (own_told hello is) (local_is hello is);
    originator = inl is.originator;
    willing = sym is.willing;
    validity = sym is.validity;
    status = shown;
    link_in = λ face at.
        (let P : Interface → Type 0 = λ b. IsHandedIn b peer one in
        subst P (sym (face_is 0 face at).1) (inr (
          (λ entry stands. absurd (let Q : List SenderMetric → Type 0 = λ b. Contains b entry in none_of entry (subst Q r.senders stands))),
          sym r.metric,
        )));
    link_out = metric;
    flooding = ((λ e. absurd (cc)), (λ given. absurd (let e : IsTrue false = subst (λ (m : Mpr). IsTrue m.flooding) (no_relays hello is given.1 given.3.0) given.4 in cc)));
    routing = ((λ e. absurd (cc)), (λ given. absurd (let e : IsTrue false = subst (λ (m : Mpr). IsTrue m.routing) (no_relays hello is given.1 given.3.0) given.4 in cc)));
  }

  -- it breaks neither rule
  pub no_fault : (hello : Hello) → IsOfPeer hello → IsFault settings peer hello None
  no_fault hello is = (not_own, (λ nameless. none_is_some (sym nameless.0 ∙ is.originator)))
    where
      not_own : IsOwn (HasAddress settings) peer hello → ⊥
      not_own (Local a local has shows) = peer_not_me (sym (local_is hello is a local shows).0 ∙ mine_is has.0 a has.1)
      not_own (Originator a has e) = peer_not_me (some_equal peer a (sym is.originator ∙ e) ∙ mine_is has.0 a has.1)
      not_own (Sender has none) = peer_not_me (mine_is has.0 peer has.1)
