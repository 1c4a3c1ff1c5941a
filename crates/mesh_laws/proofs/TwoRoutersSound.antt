-- Two routers that hear each other are sound.
use Rattle.mesh_laws.proofs.Common.{common_steps, ◌≡◌, ℕ, suc, ◌≤◌, ◌≢◌, refl, sym, ◌∙◌, ap, subst, arith, [], ◌∷◌, Contains, Option, Some, true, nat_eq, eqb-true, Addr4, Metric, LinkKey, Link, TwoHopKey, TwoHop, Neighbour, Lost, TcRow, AreTcRows, IsTcRow, Of_address, Of_network, base_of, IsFresh, addr_eq, link_eq, metric_value, HasSymmetricOf, IsByLinks, admit_on, IsSoundLink, IsSoundNeighbour, SoundNeighbourhood, Sound, Neighbourhood, link_at, two_hop_at, neighbour_at, IsHeld, AreMoreThan, only, same_number, found_one, empty_within, empties_within, single_distinct, empty_distinct, few_of_one, contains_none as none_of, contains_head as here, none_is_some}
use Rattle.mesh_laws.proofs.Members.{single_base}
use Rattle.mesh_laws.proofs.TwoRouters.{one, addr, settings, link, neighbour, state, address_on, apart}
use Rattle.mesh_laws.proofs.TwoRoutersRelays.{relays_are}
use Rattle.mesh_laws.proofs.TwoRoutersRoutes.{routes_are}
use Rattle.mesh_laws.proofs.TwoRoutersSettled.{no_selector}

-- The neighbourhood

abbrev near : ℕ → ℕ → Neighbourhood
near x y = (state x y).bases.neighbourhood

address_of : (a : Addr4) (y : ℕ) → addr_eq a (addr y) ≡ true → a ≡ addr y
address_of a y h = ap (λ (n : ℕ). let r : Addr4 = record { 0 = n } in r) (eqb-true a.0 (suc y) h)

link_found : (x y i : ℕ) (key : LinkKey) (e : Link × ℕ) → link_at (near x y) i key ≡ Some e → (i ≡ 0) × (key.addr ≡ addr y) × (e ≡ (link y, 9))
link_found x y i key e h = grind (arith, common_steps, found_one, address_of, none_is_some)

link_there : (x y : ℕ) → link_at (near x y) 0 (record { addr = addr y }) ≡ Some (link y, 9)
link_there x y = let h : nat_eq (suc y) (suc y) ≡ true = same_number (suc y) in rw h refl

neighbour_found : (x y : ℕ) (o : Addr4) (e : Neighbour × ℕ) → neighbour_at (near x y) o ≡ Some e → (o ≡ addr y) × (e ≡ (neighbour y, 9))
neighbour_found x y o e h = grind (arith, common_steps, found_one, address_of)

neighbour_there : (x y : ℕ) → neighbour_at (near x y) (addr y) ≡ Some (neighbour y, 9)
neighbour_there x y = let h : nat_eq (suc y) (suc y) ≡ true = same_number (suc y) in rw h refl

no_two_hop_at : (x y i : ℕ) (key : TwoHopKey) (t : TwoHop × ℕ) → two_hop_at (near x y) i key ≡ Some t → ⊥
no_two_hop_at x y i key t h = grind (arith, common_steps, none_is_some)

-- what a SYMMETRIC link of the neighbour is
symmetric_link : (x y : ℕ) (l : Link) → HasSymmetricOf (near x y) 5 (addr y ∷ []) l → l ≡ link y
symmetric_link x y l has = grind (arith, common_steps, link_found)

link_symmetric : (x y : ℕ) → HasSymmetricOf (near x y) 5 (addr y ∷ []) (link y)
link_symmetric x y = (0, record { addr = addr y }, 9, (here _ [], link_there x y), refl)

by_links : (x y : ℕ) → IsByLinks (near x y) 5 (neighbour y) 9
by_links x y = record {
  latest = (0, record { addr = addr y }, link y, (here _ [], link_there x y));
  no_later = λ i key l u has. (let same : u ≡ 9 = ap (λ (e : Link × ℕ). e.1) (link_found x y i key (l, u) has.1).2 in omega arith);
  symmetric = ((λ _. (link y, link_symmetric x y)), (λ _. refl));
  metric_in = ((link y, link_symmetric x y, refl), (λ m given. no_less m (ap (λ (l : Link). l.link_in) (symmetric_link x y given.0 given.1)) given.2));
  metric_out = ((link y, link_symmetric x y, refl), (λ m given. no_less_out m (ap (λ (l : Link). l.link_out) (symmetric_link x y given.0 given.1)) given.2));
}
  where
    no_less : (m : Metric) {k : Metric} → k ≡ one → k ≡ m → metric_value one ≤ metric_value m
    no_less m e f = let same : metric_value m ≡ metric_value one = ap metric_value (sym f ∙ e) in omega (arith, same)

    no_less_out : (m : Metric) {o : Option Metric} → o ≡ Some one → o ≡ Some m → metric_value one ≤ metric_value m
    no_less_out m e f = let k : one ≡ m = cc in let same : metric_value one ≡ metric_value m = ap metric_value k in omega (arith, same)

-- no two distinct addresses are the one that is held
held_is : (x y : ℕ) (a : Addr4) → IsHeld (near x y) a → a ≡ addr y
held_is x y a held = grind (arith, common_steps, neighbour_found, none_is_some)

within_limit : (x y : ℕ) → AreMoreThan 1024 (IsHeld (near x y)) → ⊥
within_limit x y many = let (some, distinct, held, more) = many in few_of_one (addr y) some distinct (λ a c. held_is x y a (held a c)) more

sound_link : (x y i : ℕ) (key : LinkKey) (l : Link) (until : ℕ) → link_at (near x y) i key ≡ Some (l, until) → IsSoundLink 5 key l
sound_link x y i key l until h = grind (arith, common_steps, link_found)

link_admitted : (x y i : ℕ) (key : LinkKey) → admit_on (settings x) i 5 (link_at (near x y) i key) ≡ link_at (near x y) i key
link_admitted x y i key = grind (arith, common_steps, link_found)

sound_neighbour : (x y : ℕ) → x ≢ y → IsSoundNeighbour (settings x) (near x y) 5 (addr y) (neighbour y) 9
sound_neighbour x y ne = record {
  ascending = λ i j d less within. absurd (omega (arith, less, within));
  by_links = by_links x y;
  selector = λ chosen. refl;
  not_mine = λ mine. apart ne (sym (address_on x mine.0 (addr y) mine.1).1);
  none_mine = λ a has mine. apart ne (sym (address_on x mine.0 a mine.1).1 ∙ only (addr y) a has);
}

sound_neighbourhood : (x y : ℕ) → x ≢ y → SoundNeighbourhood (settings x) 5 (near x y)
sound_neighbourhood x y ne = record {
  interfaces = refl;
  two_hop_interfaces = refl;
  distinct_links = single_base link_eq (record { addr = addr y }) (link y, 9);
  distinct_neighbours = single_distinct addr_eq (addr y) (neighbour y, 9);
  distinct_losts = empty_distinct Lost addr_eq;
  fresh_links = fresh;
  fresh_neighbours = λ q value until h. (let same : until ≡ 9 = ap (λ (e : Neighbour × ℕ). e.1) (neighbour_found x y q (value, until) h).1 in rw same refl);
  fresh_losts = λ q value until h. none_is_some h;
  two_hops = λ i. empties_within _ 5 i;
  limit = within_limit x y;
  link = sound_link x y;
  by_quality = link_admitted x y;
  links_apart = λ i k l e f a at to on from.
      (let first = (link_found x y i k e at).1 in
      let second = (link_found x y i l f to).1 in
      ap (λ (b : Addr4). let r : LinkKey = record { addr = b } in r) (first ∙ sym second));
  owner = λ i key l until h. (
    addr y,
    neighbour y,
    9,
    neighbour_there x y,
    λ a has. (let same : l ≡ link y = ap (λ (f : Link × ℕ). f.0) (link_found x y i key (l, until) h).2 in
        let P : Link → Type 0 = λ b. Contains b.addrs a in subst P same has),
  );
  neighbour = λ o n until h.
      (let (e, f) = neighbour_found x y o (n, until) h in
      let P : Addr4 → Type 0 = λ b. IsSoundNeighbour (settings x) (near x y) 5 b n until in
      let Q : Neighbour × ℕ → Type 0 = λ b. IsSoundNeighbour (settings x) (near x y) 5 (addr y) b.0 b.1 in
      subst P (sym e) (subst Q (sym f) (sound_neighbour x y ne)));
  neighbours_apart = λ o p e f a at to on from. (neighbour_found x y o e at).0 ∙ sym (neighbour_found x y p f to).0;
  two_hop = λ i key t h. absurd (no_two_hop_at x y i key t h);
  lost = λ a e h. none_is_some h;
  lost_not_mine = λ a e h. none_is_some h;
}
  where
    fresh : (i : ℕ) → IsFresh link_eq 5 (base_of (near x y).links i)
    fresh i q value until h = let same : until ≡ 9 = ap (λ (e : Link × ℕ). e.1) (link_found x y i q (value, until) h).2 in rw same refl

-- The whole

no_rows : (x y : ℕ) → AreTcRows (state x y) []
no_rows x y = record {
  exactly = λ row. ((λ stands. absurd (none_of row stands)), (λ is. absurd (no_row row is)));
  ordered = λ i j d less within. absurd (omega (arith, within));
}
  where
    no_row : (row : TcRow) → IsTcRow (state x y) row → ⊥
    no_row row (Of_address a m dest origin routable gateway metric is) = no_selector x y a is.giver m is.given
    no_row row (Of_network distance m origin routable gateway metric is) = none_of is.attached is.stands

pub sound : (x y : ℕ) → x ≢ y → Sound (state x y)
sound x y ne = record {
  neighbourhood = sound_neighbourhood x y ne;
  topology = record {
    advertisers = empty_within _ 5;
    routers = empty_within _ 5;
    addresses = empty_within _ 5;
    networks = empty_within _ 5;
    not_my_advertiser = λ o mine. refl;
    not_my_router = λ key mine. refl;
    not_my_address = λ key mine. refl;
    not_my_network = λ key mine. refl;
  };
  noted = record {
    interfaces = refl;
    received = λ i. empties_within _ 5 i;
    processed = empty_within _ 5;
    forwarded = empty_within _ 5;
  };
  relays = relays_are x y;
  self = addr x;
  routes = routes_are ne;
  rows = no_rows x y;
}
