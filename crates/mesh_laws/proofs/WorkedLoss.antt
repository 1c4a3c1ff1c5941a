-- The second worked HELLO is taken.
use Rattle.mesh_laws.proofs.Common.{common_steps, ◌≡◌, ◌≢◌, ℕ, ◌+◌, ◌⊎◌, inl, inr, refl, sym, ◌∙◌, ap, subst, arith, [], ◌∷◌, Contains, Some, None, true, false, IsDistinct, Addr4, Metric, Heard, HelloRow, LinkKey, TwoHopKey, Link, TwoHop, Neighbour, Lost, RouterSettings, AfterHello, renewed, Remains, Stood, addr_eq, link_eq, two_hop_eq, Told, Tells, HasRowOf, LooksAt, TellsMe, HasSymmetricOf, IsByLinks, IsSymmetricAddress, SettlesLost, Stays, Gone, Restores, link_at, two_hop_at, neighbour_at, lost_at, HasAddressOn, IsHeld, FitsTwoHops, Takes, same_addr, peer, me, own_row, no_relay, IsReceiver, link, after, lost_row, later_hello, heard_link, heard_neighbour, later, SecondHelloIsTaken, only, two, found_one, single_distinct, LinkStatus, same_address, contains_none as none_of, contains_head as here, none_is_some}
use Rattle.mesh_atoms.specs.declared.hello.LinkStatus.TheVariants.{Lost as Down, Symmetric}
use Rattle.mesh_laws.proofs.Members.{single_base, empty_base}
use Rattle.mesh_laws.proofs.WorkedReceiver.{told_of, IsOfPeer, address_in, peer_not_me, not_full, mine_is, mine, tells_of, no_fault}
use Rattle.mesh_laws.proofs.WorkedNeighbourhood.{same_peer, no_link, no_neighbour, no_two_hop, kept_none, either_none, neighbour_found}
use Rattle.mesh_laws.proofs.WorkedExpiry.{was_symmetric_address, peer_symmetric, live}

abbrev told_loss : Told
told_loss = told_of (Some Down) None

-- Rows

later_row : (a : Addr4) (row : HelloRow) → HasRowOf later_hello a row → ((row ≡ own_row) × (a ≡ peer)) ⊎ ((row ≡ lost_row) × (a ≡ me))
later_row a row has = elim (two own_row lost_row row has.0) [
  | inl e ↦ inl (e, address_in a row own_row has.1 e)
  | inr e ↦ inr (e, address_in a row lost_row has.1 e)
]

own_alone : (row : HelloRow) → Contains later_hello.rows row → (row ≡ own_row) ⊎ ((row.local ≡ None) × (row.mpr ≡ no_relay))
own_alone row stands = grind (arith, common_steps, two own_row lost_row)

later_of_peer : IsOfPeer later_hello
later_of_peer = record { originator = refl; willing = refl; validity = refl; own = (0, omega arith, refl); rows = own_alone }

no_metric : (a : Addr4) (row : HelloRow) (m : Metric) → HasRowOf later_hello a row → row.metrics.link_in ≡ Some m → ⊥
no_metric a row m has f = grind (arith, common_steps, later_row, none_is_some)

-- the peer's address alone is held before
one_held : (a : Addr4) → IsHeld after a → a ≡ peer
one_held a held = grind (arith, common_steps, neighbour_found, only, none_is_some)

-- The neighbourhood

later_link : (i : ℕ) (key : LinkKey) (e : Link × ℕ) → link_at later i key ≡ Some e → (i ≡ 0) × (key.addr ≡ peer) × (e ≡ (heard_link, 98604))
later_link i key e h = grind (arith, common_steps, found_one, peer, same_addr, none_is_some)

no_later_link : (j : ℕ) (key : LinkKey) → ((j ≢ 0) ⊎ (key ≢ record { addr = peer })) → link_at later j key ≡ None
no_later_link j key other = grind (arith, common_steps, peer, same_peer)

none_symmetric : (l : Link) → HasSymmetricOf later 300 (peer ∷ []) l → ⊥
none_symmetric l has = grind (arith, common_steps, later_link)

by_heard_links : IsByLinks later 300 heard_neighbour 98604
by_heard_links = record {
  latest = (0, record { addr = peer }, heard_link, (here peer [], refl));
  no_later = λ i key l u has. (let same : u ≡ 98604 = ap (λ (e : Link × ℕ). e.1) (later_link i key (l, u) has.1).2 in omega arith);
  symmetric = ((λ e. absurd (cc)), (λ given. absurd (none_symmetric given.0 given.1)));
  metric_in = λ m given. none_symmetric given.0 given.1;
  metric_out = λ m given. none_symmetric given.0 given.1;
}

no_later_two_hop : (j : ℕ) (key : TwoHopKey) → two_hop_at later j key ≡ None
no_later_two_hop j key = grind (arith, common_steps)

later_peer : (o : Addr4) (e : Neighbour × ℕ) → neighbour_at later o ≡ Some e → e ≡ (heard_neighbour, 98604)
later_peer o e h = (found_one addr_eq peer o (heard_neighbour, 98604) e h).1

-- no address is a symmetric neighbour's
no_symmetric_address : (a : Addr4) → IsSymmetricAddress later a → ⊥
no_symmetric_address a is = grind (arith, common_steps, later_peer)

module _ (settings : RouterSettings) (r : IsReceiver settings) where
  my_row_is : (status : LinkStatus) → TellsMe settings 0 later_hello status → status ≡ Down
  my_row_is status shows = grind (arith, common_steps, later_row, peer_not_me, mine_is)

  tells_loss : Tells settings 0 peer later_hello told_loss
  tells_loss = tells_of settings r later_hello (Some Down) None later_of_peer (
    (me, lost_row, mine settings r, ((1, omega arith, refl), refl), refl),
    (λ shows. absurd (let e : Heard ≡ Down = my_row_is Heard shows in cc)),
    (λ shows. absurd (let e : Symmetric ≡ Down = my_row_is Symmetric shows in cc)),
  ) (λ m given. no_metric given.0 given.1 m given.3 given.4)

  none_looked_at : (a : Addr4) (row : HelloRow) → LooksAt settings told_loss later_hello a row → ⊥
  none_looked_at a row looks = elim (later_row a row looks.stands) [
    | inl own ↦ looks.not_theirs (let P : Addr4 → Type 0 = λ b. Contains (peer ∷ []) b in subst P (sym own.1) (here peer []))
    | inr lost ↦ looks.not_mine (0, (let P : Addr4 → Type 0 = λ b. HasAddressOn settings 0 b in subst P (sym lost.1) (mine settings r)))
  ]

  fits : FitsTwoHops settings 0 after told_loss later_hello
  unfolding IsDistinct
  fits = (0, ([], tt, refl, (λ a. ((λ c. absurd (none_of a c)), (λ given. absurd (none_looked_at a given.0 given.1))))), omega arith)

  lost_settled : (a : Addr4) → SettlesLost (IsSymmetricAddress after a) (IsSymmetricAddress later a) (300 + settings.times.neighbour_hold) (lost_at after a) (lost_at later a)
  lost_settled a = elim (same_address a peer) [
    | inl e ↦
        let P : Addr4 → Type 0 = λ b. SettlesLost (IsSymmetricAddress after b) (IsSymmetricAddress later b) (300 + settings.times.neighbour_hold) (lost_at after b) (lost_at later b) in
        subst P (sym e) (Gone peer_symmetric (no_symmetric_address peer) (let Q : ℕ → Type 0 = λ hold. lost_at later peer ≡ Some (record {}, 300 + hold) in subst Q (sym r.neighbour_hold) refl))
    | inr other ↦ Stays (λ was. other (was_symmetric_address a was)) (no_symmetric_address a) (let off : addr_eq a peer ≡ false = same_peer a other in rw off refl)
  ]

  after_loss : AfterHello settings 300 0 told_loss later_hello after later
  after_loss = record {
    tables = record {
      links = single_base link_eq (record { addr = peer }) (heard_link, 98604);
      two_hops = empty_base TwoHop two_hop_eq;
      neighbours = single_distinct addr_eq peer (heard_neighbour, 98604);
      losts = single_distinct {V = Lost} addr_eq peer (record {}, 49452);
    };
    interfaces = refl;
    two_hop_interfaces = refl;
    link = ((link, 98504), Stood (link, 98504) refl refl, (let P : ℕ → Type 0 = λ hold. link_at later 0 (record { addr = peer }) ≡ Some (renewed told_loss.shown hold 300 (link, 98504)) in subst P (sym r.link_hold) refl));
    other_links = λ j key other. kept_none _ _ _ (no_link j key other) (no_later_link j key other);
    neighbour = record { addrs = refl; willing = refl; selector = refl; by_links = by_heard_links };
    other_neighbours = λ o other. Remains (λ e h m. none_is_some (sym (no_neighbour o other) ∙ h)) (restored o other);
    two_hops = λ is a. absurd (let f : false ≡ true = is in cc);
    no_two_hops = λ off a. refl;
    other_two_hops = λ j key other. no_later_two_hop j key ∙ sym (either_none _ _ (no_two_hop j key other));
    losts = lost_settled;
  }
    where
      restored : (o : Addr4) → (o ≡ peer → ⊥) → Restores later 300 (neighbour_at after o) (neighbour_at later o)
      restored o other = let off : addr_eq o peer ≡ false = same_peer o other in rw off refl

pub second_hello : SecondHelloIsTaken
second_hello settings r =
    (live settings r, Takes told_loss (no_fault settings r later_hello later_of_peer) (tells_loss settings r) (not_full after (Some Down) None one_held) (fits settings r) (after_loss settings r))
