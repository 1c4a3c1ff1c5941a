-- Three routers in a row hold exactly what the others say.
use Rattle.mesh_laws.proofs.Common.{common_steps, ◌≡◌, ℕ, suc, ◌⊎◌, ◌≢◌, inl, inr, refl, sym, ◌∙◌, ap, subst, arith, List, [], ◌∷◌, map, Contains, Option, Some, IsTrue, Addr4, NetAddr, Metric, Attached4, LinkKey, Link, Neighbour, TwoHopKey, TwoHop, RouterKey, RouterTuple, AddressKey, AddressTuple, NetworkKey, NetworkTuple, Has, Advertises, Says, IsSaid, Near_in, Near_out, Link_in, Link_out, Joins, IsMetric, At, IsSettledAt, IsLeastAddress, IsLinkTo, IsNeighbourOf, IsTwoHopBy, IsStray, IsPeer, IsRouterBy, IsAddressBy, IsNetworkBy, State, HasAddress, IsOriginator, HasTwoHop, contains_map, contains_none as none_of, contains_head as here}
use Rattle.mesh_laws.proofs.Members.{unmapped, both_same, has_same}
use Rattle.mesh_laws.proofs.ThreeRouters.{one, addr, attached, face, settings, scenario, peers, beyond, relays, is_middle, told, gateways, key, link, neighbour, two_hop_key, far, row_entry, router_key, router_tuple, address_key, address_tuple, network_key, network_tuple, network_entry, state, states, each_pair, each_beyond, each_told, each_gateway, each_relay, peers_back, same_number, address_on, has_own, link_is, link_has, symmetric_is, symmetric_has, two_hop_is, two_hop_has}
use Rattle.mesh_laws.proofs.ThreeRoutersInRange.{attached_is}
use Rattle.mesh_laws.proofs.ThreeRoutersSay.{symmetric_said, says_symmetric, flooding_said, says_flooding, routing_said, says_routing, near_in_said, near_out_said, says_near_in, says_near_out, advertises, advertises_is, advertises_originator, advertises_network}
use Rattle.mesh_laws.proofs.ThreeRoutersRadio.{leads, joins, metric, each_state, state_is, state_at, next_to, two_away}

-- Links and neighbours

least_own : (y : ℕ) → IsLeastAddress (settings y) 0 (addr y)
least_own y = (has_own y, λ b on. (let (_, e) = address_on y 0 b on in let f : b.0 ≡ suc y = ap (λ (a : Addr4). a.0) e in omega (arith, f)))

own_address : (y j : ℕ) (a : Addr4) → IsLeastAddress (settings y) j a → a ≡ addr y
own_address y j a least = (address_on y j a least.0).1

-- who is chosen is the middle one
chosen_by : (x y : ℕ) → Contains (peers x) y → IsTrue (is_middle x) → Contains (relays y) x
chosen_by = grind (arith, common_steps, each_pair)

is_chosen : (x y : ℕ) → Contains (relays x) y → IsTrue (is_middle y)
is_chosen = each_relay (λ x y. IsTrue (is_middle y)) refl refl

chosen_here : (x y z : ℕ) (a : Addr4) → a ≡ addr x → a ≡ addr z → Contains (relays y) z → IsTrue (is_middle x)
chosen_here x y z a e f c = is_chosen y x (subst (λ k. Contains (relays y) k) (same_number z x (sym f ∙ e)) c)

link_to : (x y : ℕ) → Contains (peers x) y → IsLinkTo (state x) (state y) 0 0 5 one one (key y) (link x y)
link_to x y c = record {
  keyed = least_own y;
  addresses = λ a. (
    (λ has. (face y, refl, has)),
    (λ on. (let (_, e) = address_on y 0 a on in subst (λ b. Contains (addr y ∷ []) b) (sym e) (here (addr y) []))),
  );
  link_in = refl;
  link_out = refl;
  selector = (
    (λ on. (addr x, has_own x, says_flooding y x (peers_back x y c) (chosen_by x y c on))),
    (λ said.
        (let (a, on, says) = said in
        let (z, _, is, among) = flooding_said y 0 a says in
        chosen_here x y z a (address_on x 0 a on).1 is among)),
  );
}

neighbour_of : (x y : ℕ) → Contains (peers x) y → IsNeighbourOf (state x) (state y) 5 one one (addr y) (neighbour x y)
neighbour_of x y c = record {
  originator_is = (face y, refl, refl);
  addresses = λ a. (
    (λ has. (0, (face y, refl, has))),
    (λ has. (let (_, e) = address_on y has.0 a has.1 in subst (λ b. Contains (addr y ∷ []) b) (sym e) (here (addr y) []))),
  );
  willing = refl;
  metric_in = refl;
  metric_out = refl;
  selector = λ j. (
    (λ on. (addr x, (0, has_own x), says_routing y x j (peers_back x y c) (chosen_by x y c on))),
    (λ said.
        (let (a, has, says) = said in
        let (z, _, is, among) = routing_said y j a says in
        chosen_here x y z a (address_on x has.0 a has.1).1 is among)),
  );
}

-- 2-hop tuples

-- who is beyond x: behind the middle one, and not x
pub record IsBehind (x z : ℕ) : Type 0 where
  pub by_middle : Contains (peers x) 1
  pub next : Contains (peers 1) z
  pub not_x : addr z ≢ addr x
  pub not_middle : addr z ≢ addr 1

two_apart : (y z : ℕ) → y ≢ z → addr y ≢ addr z
two_apart y z other e = other (same_number y z e)

pub behind : (x z : ℕ) → Contains (beyond x) z → IsBehind x z
behind = each_beyond IsBehind
    (record { by_middle = here 1 []; next = (1, omega arith, refl); not_x = two_apart 2 0 (λ e. absurd (omega (arith, e))); not_middle = two_apart 2 1 (λ e. absurd (omega (arith, e))) })
    (record { by_middle = here 1 []; next = here 0 (2 ∷ []); not_x = two_apart 0 2 (λ e. absurd (omega (arith, e))); not_middle = two_apart 0 1 (λ e. absurd (omega (arith, e))) })

beyond_is : (x y z : ℕ) → Contains (peers x) y → Contains (peers y) z → (z ≡ x → ⊥) → (y ≡ 1) × Contains (beyond x) z
beyond_is x y z c d other = grind (arith, common_steps, each_pair)

two_hop_by : (x z : ℕ) → Contains (beyond x) z → IsTwoHopBy (state x) (state 1) 0 5 (two_hop_key z) far
two_hop_by x z c = record {
  link = least_own 1;
  shown = inl (says_symmetric 1 z (behind x z c).next);
  not_mine = λ mine. (behind x z c).not_x (address_on x mine.0 (addr z) mine.1).1;
  not_theirs = λ theirs. (behind x z c).not_middle (address_on 1 theirs.0 (addr z) theirs.1).1;
  metric_in = inl (says_near_in 1 z 0 (behind x z c).next);
  metric_out = inl (says_near_out 1 z 0 (behind x z c).next);
}

-- where the neighbour's metric is 1, that is said
said_one : (near link : Metric → Type 0) (o : Option Metric) → IsSaid near link o → near one → ((m : Metric) → near m → m ≡ one) → o ≡ Some one
said_one near link o said is only = grind (arith, common_steps)

two_hop_held : (x y : ℕ) (k : TwoHopKey) (t : TwoHop) → Contains (peers x) y → IsTwoHopBy (state x) (state y) 0 5 k t → HasTwoHop (state x) 0 k t
two_hop_held x y k t c by =
    let (z, d, z_is) = symmetric_said y 0 k.addr by.shown in
    let not_mine : z ≡ x → ⊥ = λ e. by.not_mine (subst (λ (b : Addr4). HasAddress (settings x) b) (sym (z_is ∙ ap addr e)) (0, has_own x)) in
    let (y_is, among) = beyond_is x y z c d not_mine in
    let own : k.link ≡ key 1 = ap (λ (a : Addr4). let r : LinkKey = record { addr = a } in r) (own_address y 0 k.link.addr by.link ∙ ap addr y_is) in
    let k_is : two_hop_key z ≡ k = both_same (λ (l : LinkKey) (a : Addr4). let r : TwoHopKey = record { link = l; addr = a } in r) _ _ _ _ (sym own) (sym z_is) in
    let said_in : t.metric_in ≡ Some one =
    said_one (λ m. Says (state y) 0 5 k.addr (Near_in m)) (λ m. Says (state y) 0 5 k.addr (Link_in m)) t.metric_in by.metric_in
    (subst (λ (a : Addr4). Says (state y) 0 5 a (Near_in one)) (sym z_is) (says_near_in y z 0 d)) (λ m h. near_in_said y 0 k.addr m h) in
    let said_out : t.metric_out ≡ Some one =
    said_one (λ m. Says (state y) 0 5 k.addr (Near_out m)) (λ m. Says (state y) 0 5 k.addr (Link_out m)) t.metric_out by.metric_out
    (subst (λ (a : Addr4). Says (state y) 0 5 a (Near_out one)) (sym z_is) (says_near_out y z 0 d)) (λ m h. near_out_said y 0 k.addr m h) in
    let t_is : far ≡ t = both_same (λ (i o : Option Metric). let r : TwoHop = record { metric_in = i; metric_out = o } in r) _ _ _ _ (sym said_in) (sym said_out) in
    subst (λ (u : TwoHop). HasTwoHop (state x) 0 k u) t_is (subst (λ (l : TwoHopKey). HasTwoHop (state x) 0 l far) k_is (two_hop_has x z among))

-- What TCs give

pub own_originator : (y : ℕ) (a : Addr4) → IsOriginator (settings y) a → a ≡ addr y
own_originator y a is = grind (arith, common_steps)

-- who is told of z by the middle router
record IsToldOf (x z : ℕ) : Type 0 where
  peer : IsPeer scenario states x 1 (state 1)
  pub next : Contains (peers 1) z

told_of : (x z : ℕ) → Contains (told x) z → IsToldOf x z
told_of = each_told IsToldOf
    (record { peer = next_to 0 1 (λ e. absurd (omega (arith, e))) (here 1 []); next = here 0 (2 ∷ []) })
    (record { peer = next_to 0 1 (λ e. absurd (omega (arith, e))) (here 1 []); next = (1, omega arith, refl) })
    (record { peer = next_to 2 1 (λ e. absurd (omega (arith, e))) (here 1 []); next = here 0 (2 ∷ []) })
    (record { peer = next_to 2 1 (λ e. absurd (omega (arith, e))) (here 1 []); next = (1, omega arith, refl) })

told_all : (x : ℕ) (p : State) → At states x p → 1 ≢ x → (z : ℕ) → Contains (peers 1) z → Contains (told x) z
told_all = each_state (λ x p. 1 ≢ x → (z : ℕ) → Contains (peers 1) z → Contains (told x) z) (λ _ z c. c) (λ other z c. absurd (other refl)) (λ _ z c. c)

router_by : (z : ℕ) → Contains (peers 1) z → IsRouterBy (state 1) (router_key (addr 1) (addr z)) (router_tuple 0 one)
router_by z c = record { from = (face 1, refl, refl); to = advertises_originator z c; metric = advertises z c; ansn = refl }

address_by : (z : ℕ) → Contains (peers 1) z → IsAddressBy (state 1) (address_key (addr 1) (addr z)) (address_tuple 0 one)
address_by z c = record { from = (face 1, refl, refl); metric = advertises z c; ansn = refl }

network_by : IsNetworkBy (state 2) (network_key 2) network_tuple
network_by = record { from = (face 2, refl, refl); row = advertises_network; ansn = refl }

-- a row of an address is the middle router's, and the tuple of its address is held
row_held : {K V : Type 0} (key_of : Addr4 → Addr4 → K) (tuple_of : ℕ → Metric → V) (x w : ℕ) (p : State) (from a : Addr4) (n : ℕ) (m : Metric) → At states x p → w ≢ x →
    IsOriginator (settings w) from → Advertises (state w) a m → n ≡ 0 → Has (map (row_entry key_of tuple_of) (told x)) (key_of from a) (tuple_of n m)
row_held key_of tuple_of x w p from a n m at other origin row number =
    let (w_is, z, c, a_is, m_is) = advertises_is w a m row in
    let among = told_all x p at (subst (λ k. k ≢ x) w_is other) z (subst (λ k. Contains (peers k) z) w_is c) in
    has_same (map (row_entry key_of tuple_of) (told x)) (key_of (addr 1) (addr z)) (key_of from a) (tuple_of 0 one) (tuple_of n m)
    (both_same key_of _ _ _ _ (sym (own_originator w from origin ∙ ap addr w_is)) (sym a_is)) (both_same tuple_of _ _ _ _ (sym number) (sym m_is))
    (9, contains_map (row_entry key_of tuple_of) (told x) z among)

router_held : (x w : ℕ) (p : State) (k : RouterKey) (t : RouterTuple) → At states x p → w ≢ x → IsRouterBy (state w) k t → Has (state x).bases.topology.routers k t
router_held x w p k t at other by = row_held router_key router_tuple x w p k.from k.to t.ansn t.metric at other by.from by.metric by.ansn

address_held : (x w : ℕ) (p : State) (k : AddressKey) (t : AddressTuple) → At states x p → w ≢ x → IsAddressBy (state w) k t → Has (state x).bases.topology.addresses k t
address_held x w p k t at other by = row_held address_key address_tuple x w p k.from k.addr t.ansn t.metric at other by.from by.metric by.ansn

-- a gateway that x is told of is a peer, and says so
gateway_of : (x g : ℕ) → Contains (gateways x) g → IsPeer scenario states x 2 (state 2) × IsNetworkBy (state 2) (network_key g) network_tuple
gateway_of = each_gateway (λ x g. IsPeer scenario states x 2 (state 2) × IsNetworkBy (state 2) (network_key g) network_tuple)
    (two_away 0 2 (λ e. absurd (omega (arith, e))) (here 1 []) (1, omega arith, refl), network_by)
    (next_to 1 2 (λ e. absurd (omega (arith, e))) (1, omega arith, refl), network_by)

gateways_all : (x : ℕ) (p : State) → At states x p → 2 ≢ x → Contains (gateways x) 2
gateways_all = each_state (λ x p. 2 ≢ x → Contains (gateways x) 2) (λ _. here 2 []) (λ _. here 2 []) (λ other. absurd (other refl))

gateway_is : (w : ℕ) (q : State) → At states w q → (t : Attached4) → Contains (attached w) t → w ≡ 2
gateway_is = each_state (λ w q. (t : Attached4) → Contains (attached w) t → w ≡ 2) (λ t c. absurd (none_of t c)) (λ t c. absurd (none_of t c)) (λ t c. refl)

network_held : (x w : ℕ) (p q : State) (k : NetworkKey) (t : NetworkTuple) → At states x p → At states w q → w ≢ x → IsNetworkBy (state w) k t →
    Has (state x).bases.topology.networks k t
network_held x w p q k t at away other by =
    let row = by.row in
    let w_is = gateway_is w q away row.attached row.stands in
    let is = attached_is w row.attached row.stands in
    let k_is : network_key 2 ≡ k =
    both_same (λ (a : Addr4) (b : NetAddr). let r : NetworkKey = record { from = a; net = b } in r) _ _ _ _
    (sym (own_originator w k.from by.from ∙ ap addr w_is)) (ap (λ (b : Attached4). b.net) (sym is) ∙ row.at_net) in
    let parts : network_tuple ≡ record { ansn = 0; distance = t.distance; metric = t.metric } =
    both_same (λ (d : ℕ) (m : Metric). let r : NetworkTuple = record { ansn = 0; distance = d; metric = m } in r) _ _ _ _
    (ap (λ (b : Attached4). b.distance) (sym is) ∙ row.at_distance) (ap (λ (b : Attached4). b.metric) (sym is) ∙ row.at_metric) in
    let t_is : network_tuple ≡ t = parts ∙ ap (λ (n : ℕ). let r : NetworkTuple = record { ansn = n; distance = t.distance; metric = t.metric } in r) (sym by.ansn) in
    has_same (map network_entry (gateways x)) (network_key 2) k network_tuple t k_is t_is
    (9, contains_map network_entry (gateways x) 2 (gateways_all x p at (subst (λ n. n ≢ x) w_is other)))

-- What is held is of a peer

link_known : (x i : ℕ) (k : LinkKey) (l : Link) (y : ℕ) → i ≡ 0 → Contains (peers x) y → k ≡ key y → l ≡ link x y →
    (z j : ℕ) × (q : State) × (there back : Metric) × At states z q × Joins scenario x i z j there back × IsLinkTo (state x) q i j 5 there back k l
link_known x i k l y e c k_is l_is = rw (e, k_is, l_is) (y, 0, state y, one, one, state_at x y c, joins x y c, link_to x y c)

neighbour_known : (x : ℕ) (o : Addr4) (n : Neighbour) (y : ℕ) → Contains (peers x) y → o ≡ addr y → n ≡ neighbour x y →
    (z : ℕ) × (q : State) × (there back : Metric) × At states z q × IsMetric scenario x z there × IsMetric scenario z x back × IsNeighbourOf (state x) q 5 there back o n
neighbour_known x o n y c e n_is = rw (e, n_is) (y, state y, one, one, state_at x y c, metric x y c, metric y x (peers_back x y c), neighbour_of x y c)

two_hop_known : (x i : ℕ) (k : TwoHopKey) (t : TwoHop) (z : ℕ) → i ≡ 0 → Contains (beyond x) z → k ≡ two_hop_key z → t ≡ far →
    (y j : ℕ) × (q : State) × (there back : Metric) × At states y q × Joins scenario x i y j there back × IsTwoHopBy (state x) q j 5 k t
two_hop_known x i k t z e c k_is t_is =
    let middle = (behind x z c).by_middle in
    rw (e, k_is, t_is) (1, 0, state 1, one, one, state_at x 1 middle, joins x 1 middle, two_hop_by x z c)

-- a topology tuple is what router w says, where w says each of its kind
tuple_known : {K V : Type 0} (By : State → K → V → Type 0) (from : K → Addr4) (entry : ℕ → K × (V × ℕ)) (zs : List ℕ) (x w : ℕ) →
    ((z : ℕ) → Contains zs z → IsPeer scenario states x w (state w) × By (state w) (entry z).0 (entry z).1.0) → (k : K) (t : V) → Has (map entry zs) k t →
    IsStray scenario x (from k) ⊎ ((v : ℕ) × (q : State) × IsPeer scenario states x v q × By q k t)
tuple_known {K} {V} By from entry zs x w said k t (until, stands) =
    let (z, c, is) = unmapped entry zs (k, (t, until)) stands in
    let (peer, by) = said z c in
    inr (w, state w, peer, subst (λ (e : K × (V × ℕ)). By (state w) e.0 e.1.0) (sym is) by)

-- The whole

pub settled_at : (x : ℕ) (p : State) → At states x p → IsSettledAt scenario states 5 x (state x)
settled_at x p at = record {
  link_from = λ i k l has symmetric. (let (e, y, c, k_is, l_is) = link_is x i k l has in link_known x i k l y e c k_is l_is);
  link_to = λ i y j q there back away joined.
      (let (e, f, there_is, c) = leads x i y j there joined.out in
      let (_, _, back_is, _) = leads y j x i back joined.home in
      rw (e, f, there_is, back_is, state_is y q away) (key y, link x y, link_has x y c, refl, link_to x y c));
  neighbour_from = λ o n has. (let (y, c, e, n_is) = symmetric_is x o n has in neighbour_known x o n y c e n_is);
  neighbour_to = λ y q away near.
      (let (i, j, there, back, joined) = near in
      let (_, _, _, c) = leads x i y j there joined.out in
      rw (state_is y q away) (addr y, neighbour x y, one, one, symmetric_has x y c, metric x y c, metric y x (peers_back x y c), neighbour_of x y c));
  two_hop_from = λ i k t has. (let (e, z, c, k_is, t_is) = two_hop_is x i k t has in two_hop_known x i k t z e c k_is t_is);
  two_hop_to = λ i y j q there back k t away joined by.
      (let (e, f, _, c) = leads x i y j there joined.out in
      let P : State → Type 0 = λ b. IsTwoHopBy (state x) b j 5 k t in
      let Q : ℕ → Type 0 = λ b. IsTwoHopBy (state x) (state y) b 5 k t in
      subst (λ b. HasTwoHop (state x) b k t) (sym e) (two_hop_held x y k t c (subst Q f (subst P (state_is y q away) by))));
  router_from = tuple_known IsRouterBy (λ k. k.from) (row_entry router_key router_tuple) (told x) x 1 (λ z c. ((told_of x z c).peer, router_by z (told_of x z c).next));
  router_to = λ w q k t who by. router_held x w p k t at who.other (subst (λ b. IsRouterBy b k t) (state_is w q who.at) by);
  address_from = tuple_known IsAddressBy (λ k. k.from) (row_entry address_key address_tuple) (told x) x 1 (λ z c. ((told_of x z c).peer, address_by z (told_of x z c).next));
  address_to = λ w q k t who by. address_held x w p k t at who.other (subst (λ b. IsAddressBy b k t) (state_is w q who.at) by);
  network_from = tuple_known IsNetworkBy (λ k. k.from) network_entry (gateways x) x 2 (gateway_of x);
  network_to = λ w q k t who by. network_held x w p q k t at who.at who.other (subst (λ b. IsNetworkBy b k t) (state_is w q who.at) by);
}
