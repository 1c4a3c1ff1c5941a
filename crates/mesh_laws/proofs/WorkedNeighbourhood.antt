-- The neighbourhood after the worked HELLO.
use Rattle.mesh_laws.proofs.Common.{common_steps, ◌≡◌, ◌≢◌, ℕ, ◌+◌, ◌≤◌, ◌⊎◌, inl, inr, refl, sym, ◌∙◌, ap, subst, arith, [], ◌∷◌, Contains, Option, Some, None, Bool, true, false, cond, Addr4, Metric, LinkKey, TwoHopKey, Link, TwoHop, Neighbour, Lost, RouterSettings, AfterHello, Made, made, renewed, Remains, New_link, TellsTwoHop, By_row, By_none, IsKept, addr_eq, link_eq, two_hop_eq, metric_value, HasSymmetricOf, IsByLinks, HasTables, IsSymmetricAddress, SettlesLost, Back, Stays, link_at, two_hop_at, neighbour_at, is_symmetric, rule_of, Takes, same_addr, peer, third, one, three, five, Heard, third_row, hello, IsReceiver, nothing, link, neighbour, after, FirstHelloIsTaken, only, found_one, single_distinct, empty_distinct, same_address, contains_head as here, none_is_some}
use Rattle.mesh_laws.proofs.WorkedQuality.{made_is}
use Rattle.mesh_laws.proofs.Members.{single_base}
use Rattle.mesh_laws.proofs.WorkedReceiver.{not_full, no_fault}
use Rattle.mesh_laws.proofs.WorkedHello.{told, of_peer, none_held, looks_at, looked_at, tells, fits}

-- the tuple of the address beyond
abbrev pub beyond : TwoHop
beyond = record { metric_in = Some five; metric_out = None }

pub after_tables : HasTables after
after_tables = record {
  links = single_base link_eq (record { addr = peer }) (link, 98504);
  two_hops = single_base {V = TwoHop} two_hop_eq (record { link = record { addr = peer }; addr = third }) (beyond, 49352);
  neighbours = single_distinct addr_eq peer (neighbour, 98504);
  losts = empty_distinct Lost addr_eq;
}

pub same_peer : (a : Addr4) → (a ≡ peer → ⊥) → addr_eq a peer ≡ false
same_peer a other = grind (arith, common_steps, peer, same_addr)

pub link_found : (i : ℕ) (key : LinkKey) (e : Link × ℕ) → link_at after i key ≡ Some e → (i ≡ 0) × (key.addr ≡ peer) × (e ≡ (link, 98504))
link_found i key e h = grind (arith, common_steps, found_one, peer, same_addr, none_is_some)

pub no_link : (j : ℕ) (key : LinkKey) → ((j ≢ 0) ⊎ (key ≢ record { addr = peer })) → link_at after j key ≡ None
no_link j key other = grind (arith, common_steps, peer, same_peer)

pub stood_nothing : (j : ℕ) (key : LinkKey) → link_at nothing j key ≡ None
stood_nothing j key = grind (arith, common_steps)

pub stood_no_two_hop : (j : ℕ) (key : TwoHopKey) → two_hop_at nothing j key ≡ None
stood_no_two_hop j key = grind (arith, common_steps)

pub no_neighbour : (o : Addr4) → (o ≡ peer → ⊥) → neighbour_at after o ≡ None
no_neighbour o other = let off : addr_eq o peer ≡ false = same_peer o other in rw off refl

pub no_two_hop : (j : ℕ) (key : TwoHopKey) → ((j ≢ 0) ⊎ (key.link ≢ record { addr = peer })) → two_hop_at after j key ≡ None
no_two_hop j key other = grind (arith, common_steps, peer, same_peer)

pub no_two_hop_of : (a : Addr4) → (a ≡ third → ⊥) → two_hop_at after 0 (record { link = record { addr = peer }; addr = a }) ≡ None
no_two_hop_of a other = grind (arith, common_steps, peer, same_addr)

pub neighbour_found : (o : Addr4) (e : Neighbour × ℕ) → neighbour_at after o ≡ Some e → (o ≡ peer) × (e ≡ (neighbour, 98504))
neighbour_found o e h = let (same, is) = found_one addr_eq peer o (neighbour, 98504) e h in (same_addr o peer same, is)

pub symmetric_link : (now : ℕ) (l : Link) → HasSymmetricOf after now (peer ∷ []) l → l ≡ link
symmetric_link now l has = grind (arith, common_steps, link_found)

pub link_symmetric : (now : ℕ) → is_symmetric link now ≡ true → HasSymmetricOf after now (peer ∷ []) link
link_symmetric now late = (0, record { addr = peer }, 98504, (here peer [], refl), late)

pub by_links : (now : ℕ) → is_symmetric link now ≡ true → IsByLinks after now neighbour 98504
by_links now late = record {
  latest = (0, record { addr = peer }, link, (here peer [], refl));
  no_later = λ i key l u has. (let same : u ≡ 98504 = ap (λ (e : Link × ℕ). e.1) (link_found i key (l, u) has.1).2 in omega arith);
  symmetric = ((λ _. (link, link_symmetric now late)), (λ _. refl));
  metric_in = ((link, link_symmetric now late, refl), (λ m given. in_is m (ap (λ (l : Link). l.link_in) (symmetric_link now given.0 given.1)) given.2));
  metric_out = ((link, link_symmetric now late, refl), (λ m given. out_is m (ap (λ (l : Link). l.link_out) (symmetric_link now given.0 given.1)) given.2));
}
  where
    in_is : (m : Metric) {k : Metric} → k ≡ one → k ≡ m → metric_value one ≤ metric_value m
    in_is m e f = let same : metric_value m ≡ metric_value one = ap metric_value (sym f ∙ e) in omega (arith, same)

    out_is : (m : Metric) {o : Option Metric} → o ≡ Some three → o ≡ Some m → metric_value three ≤ metric_value m
    out_is m e f = let k : three ≡ m = cc in let same : metric_value three ≡ metric_value m = ap metric_value k in omega (arith, same)

pub kept_none : {A : Type 0} (P : A → Type 0) (old new : Option A) → old ≡ None → new ≡ None → IsKept P old new
kept_none P old new e f = grind (arith, common_steps, none_is_some)

pub either_none : {A : Type 0} (b : Bool) (o : Option A) → o ≡ None → cond b o None ≡ None
either_none b o e = grind (arith, common_steps)

module _ (settings : RouterSettings) (r : IsReceiver settings) where
  pub two_hop_told : (a : Addr4) → TellsTwoHop settings told hello 49352 a None (two_hop_at after 0 (record { link = record { addr = peer }; addr = a }))
  two_hop_told a = elim (same_address a third) [
    | inl e ↦
        let P : Addr4 → Type 0 = λ b. TellsTwoHop settings told hello 49352 b None (two_hop_at after 0 (record { link = record { addr = peer }; addr = b })) in
        subst P (sym e) (By_row third_row (looks_at settings r) refl)
    | inr other ↦ By_none (λ row looks. other (looked_at settings r a row looks)) (no_two_hop_of a other)
  ]

  pub lost_settled : (a : Addr4) → SettlesLost (IsSymmetricAddress nothing a) (IsSymmetricAddress after a) (200 + settings.times.neighbour_hold) None None
  lost_settled a = elim (same_address a peer) [
    | inl e ↦
        let P : Addr4 → Type 0 = λ b. Contains (peer ∷ []) b in
        Back (peer, neighbour, 98504, refl, refl, subst P (sym e) (here peer [])) refl
    | inr other ↦ Stays (λ was. none_is_some was.3) (λ is. other (of_peer is)) refl
  ]
    where
      of_peer : IsSymmetricAddress after a → a ≡ peer
      of_peer is =
          let (o, n, until, at, _, has) = is in
          let (_, same) = found_one addr_eq peer o (neighbour, 98504) (n, until) at in
          let P : Neighbour → Type 0 = λ b. Contains b.addrs a in
          only peer a (subst P (ap (λ (e : Neighbour × ℕ). e.0) same) has)

  renewed_link : link_at after 0 (record { addr = peer }) ≡ Some (renewed told.shown settings.times.link_hold 200 (made (rule_of settings 0) told.shown 200))
  renewed_link = grind (arith, common_steps, peer, renewed, made_is)

  pub after_hello : AfterHello settings 200 0 told hello nothing after
  after_hello = record {
    tables = after_tables;
    interfaces = refl;
    two_hop_interfaces = refl;
    link = (made (rule_of settings 0) told.shown 200, Made (λ e h. none_is_some h), renewed_link);
    other_links = λ j key other. kept_none _ _ _ (stood_nothing j key) (no_link j key other);
    neighbour = record { addrs = refl; willing = refl; selector = refl; by_links = by_links 200 refl };
    other_neighbours = λ o other. Remains (λ e h m. none_is_some h) (no_neighbour o other);
    two_hops = λ is a. (None, New_link (λ e h. none_is_some h), two_hop_told a);
    no_two_hops = λ off. absurd (let f : true ≡ false = off in cc);
    other_two_hops = λ j key other. no_two_hop j key other ∙ sym (either_none _ _ (stood_no_two_hop j key));
    losts = lost_settled;
  }

pub first_hello : FirstHelloIsTaken
first_hello settings r = Takes told (no_fault settings r hello of_peer) (tells settings r) (not_full nothing (Some Heard) (Some three) none_held) (fits settings r) (after_hello settings r)
