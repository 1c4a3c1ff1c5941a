-- The routes of three routers in a row.
use Rattle.mesh_laws.proofs.Common.{common_steps, ◌≡◌, ℕ, zero, suc, ◌+◌, ◌≤◌, ◌≢◌, inl, inr, refl, sym, ◌∙◌, ap, subst, arith, List, [], ◌∷◌, Contains, Some, AllPairs, Contains-from_lookup, Addr4, NetAddr, Attached4, Link, Neighbour, RouterKey, RouterTuple, AddressKey, AddressTuple, NetworkKey, NetworkTuple, TwoHopKey, TwoHop, Route, more_ascend, one_ascends, host, net_eq, metric_value, IsBefore, RouteArc, To_neighbour, To_two_hop, By_router, By_address, By_network, IsOutside, IsParent, IsNextHop, AreRoutes, Walk, Stay, Onward, Least, FirstNode, AtSelf, Through, same_net, only, at_most_itself, contains_map, contains_none as none_of, contains_head as here, some_equal}
use Rattle.std.specs.Map.{lookup}
use Rattle.mesh_laws.proofs.Members.{Each, each, unmapped}
use Rattle.mesh_laws.proofs.ThreeRouters.{one, addr, net, attached, face, peers, beyond, told, gateways, link, neighbour, row_entry, router_key, router_tuple, address_key, address_tuple, network_entry, network_tuple, route, net_route, routes, state, each_pair, each_beyond, each_told, each_gateway, same_number, address_on, has_own, link_is, link_has, two_hop_is}
use Rattle.mesh_laws.proofs.ThreeRoutersInRange.{attached_is}
use Rattle.mesh_laws.proofs.ThreeRoutersSay.{near, near_has}
use Rattle.mesh_laws.proofs.ThreeRoutersSettled.{own_originator}

-- Arcs

-- the nodes that an arc of router x leads to, each with the one that it comes from: no node has two
abbrev sources : ℕ → List (NetAddr × NetAddr)
sources zero = (host (addr 1), host (addr 0)) ∷ (host (addr 0), host (addr 1)) ∷ (host (addr 2), host (addr 1)) ∷ (net, host (addr 2)) ∷ []
sources (suc zero) = (host (addr 0), host (addr 1)) ∷ (host (addr 2), host (addr 1)) ∷ (net, host (addr 2)) ∷ []
sources (suc (suc zero)) = (host (addr 1), host (addr 2)) ∷ (host (addr 0), host (addr 1)) ∷ (host (addr 2), host (addr 1)) ∷ []
sources (suc (suc (suc x))) = []

abbrev IsArc : ℕ → NetAddr → NetAddr → Type 0
IsArc x m n = Contains (sources x) (n, m)

to_peer : (x y : ℕ) → Contains (peers x) y → IsArc x (host (addr x)) (host (addr y))
to_peer = each_pair (λ x y. IsArc x (host (addr x)) (host (addr y))) (0, omega arith, refl) (0, omega arith, refl) (1, omega arith, refl) (0, omega arith, refl)

to_beyond : (x z : ℕ) → Contains (beyond x) z → IsArc x (host (addr 1)) (host (addr z))
to_beyond = each_beyond (λ x z. IsArc x (host (addr 1)) (host (addr z))) (2, omega arith, refl) (1, omega arith, refl)

to_told : (x z : ℕ) → Contains (told x) z → IsArc x (host (addr 1)) (host (addr z))
to_told = each_told (λ x z. IsArc x (host (addr 1)) (host (addr z))) (1, omega arith, refl) (2, omega arith, refl) (1, omega arith, refl) (2, omega arith, refl)

to_network : (x g : ℕ) → Contains (gateways x) g → IsArc x (host (addr g)) net
to_network = each_gateway (λ x g. IsArc x (host (addr g)) net) (3, omega arith, refl) (2, omega arith, refl)

moved : (x : ℕ) (m m' n n' : NetAddr) → m' ≡ m → n' ≡ n → IsArc x m' n' → IsArc x m n
moved x m m' n n' e f arc = subst (λ b. IsArc x m b) f (subst (λ b. IsArc x b n') e arc)

arc_is : (x : ℕ) (m n : NetAddr) (c : ℕ) → RouteArc (state x) m n c → IsArc x m n × (c ≡ 1)
arc_is x _ _ _ (To_neighbour {self = self} {a = a} {m = m} o n is has out) =
    let (y, c, e, _, g) = near x a o n has in
    let P : Neighbour → Type 0 = λ b. b.metric_out ≡ Some m in
    (moved x (host self) (host (addr x)) (host a) (host (addr y)) (ap host (sym (own_originator x self is))) (ap host (sym e)) (to_peer x y c), ap metric_value (sym (some_equal _ _ (subst P g out))))
arc_is x _ _ _ (To_two_hop {o = o} {a = a} {m = m} i l t n has with wills out) =
    let (_, z, c, k_is, t_is) = two_hop_is x i (record { link = l; addr = a }) t has in
    let (y, _, l_is, o_is, _) = near x l.addr o n with in
    let P : TwoHop → Type 0 = λ b. b.metric_out ≡ Some m in
    let via : addr 1 ≡ o = ap (λ (k : TwoHopKey). k.link.addr) (sym k_is) ∙ (l_is ∙ sym o_is) in
    (moved x (host o) (host (addr 1)) (host a) (host (addr z)) (ap host via) (ap (λ (k : TwoHopKey). host k.addr) (sym k_is)) (to_beyond x z c), ap metric_value (sym (some_equal _ _ (subst P t_is out))))
arc_is x _ _ _ (By_router {from = from} {to = to} t has) =
    let (z, c, is) = unmapped (row_entry router_key router_tuple) (told x) (record { from = from; to = to }, (t, has.0)) has.1 in (
      moved x (host from) (host (addr 1)) (host to) (host (addr z)) (ap (λ (b : RouterKey × (RouterTuple × ℕ)). host b.0.from) (sym is)) (ap (λ (b : RouterKey × (RouterTuple × ℕ)). host b.0.to) (sym is)) (to_told x z c),
      ap (λ (b : RouterKey × (RouterTuple × ℕ)). metric_value b.1.0.metric) is,
    )
arc_is x _ _ _ (By_address {from = from} {a = a} t has) =
    let (z, c, is) = unmapped (row_entry address_key address_tuple) (told x) (record { from = from; addr = a }, (t, has.0)) has.1 in (
      moved x (host from) (host (addr 1)) (host a) (host (addr z)) (ap (λ (b : AddressKey × (AddressTuple × ℕ)). host b.0.from) (sym is)) (ap (λ (b : AddressKey × (AddressTuple × ℕ)). host b.0.addr) (sym is)) (to_told x z c),
      ap (λ (b : AddressKey × (AddressTuple × ℕ)). metric_value b.1.0.metric) is,
    )
arc_is x _ _ _ (By_network {from = from} {net = to} t has) =
    let (g, c, is) = unmapped network_entry (gateways x) (record { from = from; net = to }, (t, has.0)) has.1 in (
      moved x (host from) (host (addr g)) to net (ap (λ (b : NetworkKey × (NetworkTuple × ℕ)). host b.0.from) (sym is)) (ap (λ (b : NetworkKey × (NetworkTuple × ℕ)). b.0.net) (sym is)) (to_network x g c),
      ap (λ (b : NetworkKey × (NetworkTuple × ℕ)). metric_value b.1.0.metric) is,
    )

-- a node has one source
source_is : (x : ℕ) (m n : NetAddr) → IsArc x m n → lookup (net_eq n) (sources x) ≡ Some m
source_is zero m n arc = each (λ (t : NetAddr × NetAddr). lookup (net_eq t.0) (sources 0) ≡ Some t.1) (sources 0) (refl, (refl, (refl, (refl, tt)))) (n, m) arc
source_is (suc zero) m n arc = each (λ (t : NetAddr × NetAddr). lookup (net_eq t.0) (sources 1) ≡ Some t.1) (sources 1) (refl, (refl, (refl, tt))) (n, m) arc
source_is (suc (suc zero)) m n arc = each (λ (t : NetAddr × NetAddr). lookup (net_eq t.0) (sources 2) ≡ Some t.1) (sources 2) (refl, (refl, (refl, tt))) (n, m) arc
source_is (suc (suc (suc x))) m n arc = absurd (none_of (n, m) arc)

-- Walks

-- how far each node is
abbrev costs : ℕ → List (NetAddr × ℕ)
costs zero = (host (addr 0), 0) ∷ (host (addr 1), 1) ∷ (host (addr 2), 2) ∷ (net, 3) ∷ []
costs (suc zero) = (host (addr 1), 0) ∷ (host (addr 0), 1) ∷ (host (addr 2), 1) ∷ (net, 2) ∷ []
costs (suc (suc zero)) = (host (addr 2), 0) ∷ (host (addr 1), 1) ∷ (host (addr 0), 2) ∷ []
costs (suc (suc (suc x))) = []

abbrev IsAt : ℕ → NetAddr → ℕ → Type 0
IsAt x n d = lookup (net_eq n) (costs x) ≡ Some d

-- an arc leads from a node to one that is at most 1 farther
abbrev IsStep : ℕ → NetAddr × NetAddr → Type 0
IsStep x t = (d : ℕ) → IsAt x t.1 d → (e : ℕ) × IsAt x t.0 e × (e ≤ d + 1)

farther : (x : ℕ) (m n : NetAddr) (k l : ℕ) → IsAt x m k → IsAt x n l → l ≤ k + 1 → IsStep x (n, m)
farther x m n k l from to within d at = let same : k ≡ d = some_equal _ _ (sym from ∙ at) in (l, to, omega (arith, within, same))

steps : (x : ℕ) → Each (IsStep x) (sources x)
steps x = grind (arith, common_steps, farther)

walk_is : (x : ℕ) → IsAt x (host (addr x)) 0 → (n : NetAddr) (c : ℕ) → Walk (RouteArc (state x)) (host (addr x)) n c → (d : ℕ) × IsAt x n d × (d ≤ c)
walk_is x start _ _ Stay = (0, start, omega arith)
walk_is x start _ _ (Onward {b = p} {d = q} {c = c} {m = m} walk arc) =
    let (d, at, within) = walk_is x start p c walk in
    let (among, one_more) = arc_is x p q m arc in
    let (e, to, near_by) = each (IsStep x) (sources x) (steps x) (q, p) among d at in
    (e, to, omega (arith, within, one_more, near_by))

least : (x : ℕ) → IsAt x (host (addr x)) 0 → (n : NetAddr) (d : ℕ) → IsAt x n d → Walk (RouteArc (state x)) (host (addr x)) n d → Least (RouteArc (state x)) (host (addr x)) n d
least x start n d at walk = record {
  reached = walk;
  least = λ c other. (let (e, to, within) = walk_is x start n c other in let same : d ≡ e = some_equal _ _ (sym at ∙ to) in omega (arith, within, same));
}

-- Routes

-- the node is reached from its source, at 1 more
parent : (x : ℕ) (p n : NetAddr) (d : ℕ) → IsAt x (host (addr x)) 0 → Least (RouteArc (state x)) (host (addr x)) p d → RouteArc (state x) p n 1 →
    Least (RouteArc (state x)) (host (addr x)) n (d + 1) → IsParent (state x) (host (addr x)) p n
parent x p n d start before arc after = record {
  fits = record { before = d; metric = 1; to_parent = before; arc = arc; to_node = after };
  least = λ q fits.
      (let this = source_is x p n (arc_is x p n 1 arc).0 in
      let other = source_is x q n (arc_is x q n fits.metric fits.arc).0 in
      at_most_itself p q (some_equal _ _ (sym this ∙ other)));
}

hop : (x y : ℕ) (dest : NetAddr) (cost : ℕ) (before : NetAddr) → Contains (peers x) y → FirstNode (IsParent (state x) (host (addr x))) (host (addr x)) dest (host (addr y)) →
    IsNextHop (state x) 5 (host (addr x)) (route dest y cost before)
hop x y dest cost before c way = record {
  first = addr y;
  on_the_way = way;
  originator = addr y;
  neighbour = neighbour x y;
  owner = near_has x y c;
  metric = one;
  way = record { link = link x y; stands = link_has x y c; state = refl; of_it = here (addr y) []; out = refl };
  best = λ i k m other.
      (let (e_i, z, _, _, e_link) = link_is x i k other.link other.stands in
      let P : Link → Type 0 = λ b. b.link_out ≡ Some m in
      let same : one ≡ m = some_equal _ _ (subst P e_link other.out) in
      let at : k.addr ≡ addr y = only (addr y) k.addr other.of_it in
      let number : k.addr.0 ≡ suc y = ap (λ (a : Addr4). a.0) at in
      inr (ap metric_value same, inr (sym e_i, omega (arith, number))));
}

-- what is right about a route
record IsRight (x : ℕ) (r : Route) : Type 0 where
  outside : IsOutside (state x) r.dest
  least : Least (RouteArc (state x)) (host (addr x)) r.dest r.metric
  parent : IsParent (state x) (host (addr x)) r.parent r.dest
  next_hop : IsNextHop (state x) 5 (host (addr x)) r

-- what is reached has a route, but for the router itself
abbrev HasRoute : ℕ → NetAddr × ℕ → Type 0
HasRoute x t = IsOutside (state x) t.0 → (row : Route) × Contains (routes x) row × (row.dest ≡ t.0)

itself : (x d : ℕ) → HasRoute x (host (addr x), d)
itself x d out = absurd (out.no_address (addr x) (0, has_own x) refl)

are_routes : (x : ℕ) → IsAt x (host (addr x)) 0 → Each (HasRoute x) (costs x) → Each (IsRight x) (routes x) → AllPairs (λ r t. IsBefore r.dest t.dest) (routes x) → AreRoutes (state x) 5 (addr x)
are_routes x start reached right ordered = record {
  is_self = (face x, refl, refl);
  reached = λ node c walk out.
      (let (d, at, _) = walk_is x start node c walk in
      each (HasRoute x) (costs x) reached (node, d) (Contains-from_lookup same_net node d (costs x) at) out);
  outside = λ row stands. (each (IsRight x) (routes x) right row stands).outside;
  least = λ row stands. (each (IsRight x) (routes x) right row stands).least;
  parent = λ row stands. (each (IsRight x) (routes x) right row stands).parent;
  next_hop = λ row stands. (each (IsRight x) (routes x) right row stands).next_hop;
  ordered = ordered;
}

-- another router's address is outside
host_outside : (x y : ℕ) → y ≢ x → IsOutside (state x) (host (addr y))
host_outside x y other = record {
  no_address = λ a has e. (let (_, is) = address_on x has.0 a has.1 in other (same_number y x (ap (λ (n : NetAddr). n.addr) e ∙ is)));
  no_network = λ t stands e. (let prefix : t.net.prefix ≡ 32 = ap (λ (n : NetAddr). n.prefix) e in
      let wide : t.net.prefix ≡ 24 = ap (λ (b : Attached4). b.net.prefix) (attached_is x t stands) in absurd (omega (arith, prefix, wide)));
}

-- the network is, where it isn't attached
net_outside : (x : ℕ) → ((t : Attached4) → Contains (attached x) t → ⊥) → IsOutside (state x) net
net_outside x none = record {
  no_address = λ a has e. (let prefix : 24 ≡ 32 = ap (λ (n : NetAddr). n.prefix) e in absurd (omega (arith, prefix)));
  no_network = λ t stands e. none t stands;
}

by_router : (x z : ℕ) → Contains (told x) z → RouteArc (state x) (host (addr 1)) (host (addr z)) 1
by_router x z c = By_router (router_tuple 0 one) (9, contains_map (row_entry router_key router_tuple) (told x) z c)

by_network : (x : ℕ) → Contains (gateways x) 2 → RouteArc (state x) (host (addr 2)) net 1
by_network x c = By_network network_tuple (9, contains_map network_entry (gateways x) 2 c)

to_neighbour : (x y : ℕ) → Contains (peers x) y → RouteArc (state x) (host (addr x)) (host (addr y)) 1
to_neighbour x y c = To_neighbour (addr y) (neighbour x y) (face x, refl, refl) (near_has x y c) refl

stays : (x : ℕ) → IsAt x (host (addr x)) 0 → Least (RouteArc (state x)) (host (addr x)) (host (addr x)) 0
stays x start = least x start (host (addr x)) 0 start Stay

-- one step farther than a node at least cost
onward : (x : ℕ) (p n : NetAddr) (d : ℕ) → IsAt x (host (addr x)) 0 → Least (RouteArc (state x)) (host (addr x)) p d → RouteArc (state x) p n 1 → IsAt x n (d + 1) →
    Least (RouteArc (state x)) (host (addr x)) n (d + 1) × IsParent (state x) (host (addr x)) p n
onward x p n d start before arc at =
    let after = least x start n (d + 1) at (Onward before.reached arc) in
    (after, parent x p n d start before arc after)

apart : (y z : ℕ) → y ≢ z → host (addr y) ≢ host (addr z)
apart y z other e = other (same_number y z (ap (λ (n : NetAddr). n.addr) e))

abbrev dest : Route → NetAddr
dest r = r.dest

-- the first router's

pub first_routes : AreRoutes (state 0) 5 (addr 0)
first_routes = are_routes 0 refl
    (itself 0 0, ((λ _. (_, (0, omega arith, refl), refl)), ((λ _. (_, (1, omega arith, refl), refl)), ((λ _. (_, (2, omega arith, refl), refl)), tt)))) (
      record { outside = host_outside 0 1 (λ e. absurd (omega (arith, e))); least = one_step.0; parent = one_step.1; next_hop = hop 0 1 _ _ _ (here 1 []) first },
      (
        record { outside = host_outside 0 2 (λ e. absurd (omega (arith, e))); least = two_steps.0; parent = two_steps.1; next_hop = hop 0 1 _ _ _ (here 1 []) second },
        (record { outside = net_outside 0 (λ t c. none_of t c); least = three_steps.0; parent = three_steps.1; next_hop = hop 0 1 _ _ _ (here 1 []) (Through three_steps.1 (apart 2 0 (λ e. absurd (omega (arith, e)))) second) }, tt),
      ),
    )
    (more_ascend dest _ _ (net_route 1 3 ∷ []) (inl (omega arith)) (more_ascend dest _ _ [] (inl (omega arith)) (one_ascends dest _)))
  where
    one_step : Least (RouteArc (state 0)) (host (addr 0)) (host (addr 1)) 1 × IsParent (state 0) (host (addr 0)) (host (addr 0)) (host (addr 1))
    one_step = onward 0 (host (addr 0)) (host (addr 1)) 0 refl (stays 0 refl) (to_neighbour 0 1 (here 1 [])) refl

    two_steps : Least (RouteArc (state 0)) (host (addr 0)) (host (addr 2)) 2 × IsParent (state 0) (host (addr 0)) (host (addr 1)) (host (addr 2))
    two_steps = onward 0 (host (addr 1)) (host (addr 2)) 1 refl one_step.0 (by_router 0 2 (1, omega arith, refl)) refl

    three_steps : Least (RouteArc (state 0)) (host (addr 0)) net 3 × IsParent (state 0) (host (addr 0)) (host (addr 2)) net
    three_steps = onward 0 (host (addr 2)) net 2 refl two_steps.0 (by_network 0 (here 2 [])) refl

    first : FirstNode (IsParent (state 0) (host (addr 0))) (host (addr 0)) (host (addr 1)) (host (addr 1))
    first = AtSelf one_step.1

    second : FirstNode (IsParent (state 0) (host (addr 0))) (host (addr 0)) (host (addr 2)) (host (addr 1))
    second = Through two_steps.1 (apart 1 0 (λ e. absurd (omega (arith, e)))) first

-- the middle router's

pub second_routes : AreRoutes (state 1) 5 (addr 1)
second_routes = are_routes 1 refl
    (itself 1 0, ((λ _. (_, (0, omega arith, refl), refl)), ((λ _. (_, (1, omega arith, refl), refl)), ((λ _. (_, (2, omega arith, refl), refl)), tt)))) (
      record { outside = host_outside 1 0 (λ e. absurd (omega (arith, e))); least = back.0; parent = back.1; next_hop = hop 1 0 _ _ _ (here 0 (2 ∷ [])) (AtSelf back.1) },
      (
        record { outside = host_outside 1 2 (λ e. absurd (omega (arith, e))); least = ahead.0; parent = ahead.1; next_hop = hop 1 2 _ _ _ (1, omega arith, refl) (AtSelf ahead.1) },
        (record { outside = net_outside 1 (λ t c. none_of t c); least = network.0; parent = network.1; next_hop = hop 1 2 _ _ _ (1, omega arith, refl) (Through network.1 (apart 2 1 (λ e. absurd (omega (arith, e)))) (AtSelf ahead.1)) }, tt),
      ),
    )
    (more_ascend dest _ _ (net_route 2 2 ∷ []) (inl (omega arith)) (more_ascend dest _ _ [] (inl (omega arith)) (one_ascends dest _)))
  where
    back : Least (RouteArc (state 1)) (host (addr 1)) (host (addr 0)) 1 × IsParent (state 1) (host (addr 1)) (host (addr 1)) (host (addr 0))
    back = onward 1 (host (addr 1)) (host (addr 0)) 0 refl (stays 1 refl) (to_neighbour 1 0 (here 0 (2 ∷ []))) refl

    ahead : Least (RouteArc (state 1)) (host (addr 1)) (host (addr 2)) 1 × IsParent (state 1) (host (addr 1)) (host (addr 1)) (host (addr 2))
    ahead = onward 1 (host (addr 1)) (host (addr 2)) 0 refl (stays 1 refl) (to_neighbour 1 2 (1, omega arith, refl)) refl

    network : Least (RouteArc (state 1)) (host (addr 1)) net 2 × IsParent (state 1) (host (addr 1)) (host (addr 2)) net
    network = onward 1 (host (addr 2)) net 1 refl ahead.0 (by_network 1 (here 2 [])) refl

-- the last router's

pub third_routes : AreRoutes (state 2) 5 (addr 2)
third_routes = are_routes 2 refl
    (itself 2 0, ((λ _. (_, (1, omega arith, refl), refl)), ((λ _. (_, (0, omega arith, refl), refl)), tt))) (
      record { outside = host_outside 2 0 (λ e. absurd (omega (arith, e))); least = two_steps.0; parent = two_steps.1; next_hop = hop 2 1 _ _ _ (here 1 []) (Through two_steps.1 (apart 1 2 (λ e. absurd (omega (arith, e)))) (AtSelf one_step.1)) },
      (record { outside = host_outside 2 1 (λ e. absurd (omega (arith, e))); least = one_step.0; parent = one_step.1; next_hop = hop 2 1 _ _ _ (here 1 []) (AtSelf one_step.1) }, tt),
    )
    (more_ascend dest _ _ [] (inl (omega arith)) (one_ascends dest _))
  where
    one_step : Least (RouteArc (state 2)) (host (addr 2)) (host (addr 1)) 1 × IsParent (state 2) (host (addr 2)) (host (addr 2)) (host (addr 1))
    one_step = onward 2 (host (addr 2)) (host (addr 1)) 0 refl (stays 2 refl) (to_neighbour 2 1 (here 1 [])) refl

    two_steps : Least (RouteArc (state 2)) (host (addr 2)) (host (addr 0)) 2 × IsParent (state 2) (host (addr 2)) (host (addr 1)) (host (addr 0))
    two_steps = onward 2 (host (addr 1)) (host (addr 0)) 1 refl one_step.0 (by_router 2 0 (here 0 (2 ∷ []))) refl
