-- Three routers in a row: the middle one relays for the other two, and the last one attaches a network. Their settings, their scenario
-- and their states.
use Rattle.mesh_laws.proofs.Common.{common_steps, ◌≡◌, ℕ, zero, suc, refl, ap, arith, List, [], ◌∷◌, map, Contains, Some, None, Bool, true, false, IsTrue, Addr4, NetAddr, Metric, TcRow, LinkKey, Link, TwoHopKey, TwoHop, Neighbour, Advertiser, RouterKey, RouterTuple, AddressKey, AddressTuple, NetworkKey, NetworkTuple, RouterSettings, Scenario, Route, host, State, HasLink, HasTwoHop, HasSymmetric, HasAddressOn, quiet, contains_map, contains_head as here}
pub use Rattle.mesh_laws.proofs.PlainRouters.{one, addr, face, arc}
use Rattle.mesh_laws.proofs.PlainRouters.{settings_of, scenario_of, link_of, neighbour_of, plain_state}
use Rattle.mesh_laws.proofs.Members.{unmapped}
use Rattle.mesh_laws.proofs.ThreeRoutersInRange.{is_router, are_routers, arcs, are_arcs}
pub use Rattle.mesh_laws.proofs.ThreeRoutersInRange.{net, attached, given}

-- Who knows whom

-- the routers that router x hears
abbrev pub peers : ℕ → List ℕ
peers zero = 1 ∷ []
peers (suc zero) = 0 ∷ 2 ∷ []
peers (suc (suc zero)) = 1 ∷ []
peers (suc (suc (suc x))) = []

-- those behind the middle one
abbrev pub beyond : ℕ → List ℕ
beyond zero = 2 ∷ []
beyond (suc zero) = []
beyond (suc (suc zero)) = 0 ∷ []
beyond (suc (suc (suc x))) = []

-- the relays that it has chosen
abbrev pub relays : ℕ → List ℕ
relays zero = 1 ∷ []
relays (suc zero) = []
relays (suc (suc zero)) = 1 ∷ []
relays (suc (suc (suc x))) = []

-- whether it is chosen as a relay by those that it hears
abbrev pub is_middle : ℕ → Bool
is_middle zero = false
is_middle (suc zero) = true
is_middle (suc (suc x)) = false

-- the routers that the middle one advertises to it
abbrev pub told : ℕ → List ℕ
told zero = 0 ∷ 2 ∷ []
told (suc zero) = []
told (suc (suc zero)) = 0 ∷ 2 ∷ []
told (suc (suc (suc x))) = []

-- the gateways that advertise the network to it
abbrev pub gateways : ℕ → List ℕ
gateways zero = 2 ∷ []
gateways (suc zero) = 2 ∷ []
gateways (suc (suc x)) = []

-- the routers whose TCs it has taken
abbrev pub advertisers : ℕ → List ℕ
advertisers zero = 1 ∷ 2 ∷ []
advertisers (suc zero) = 2 ∷ []
advertisers (suc (suc zero)) = 1 ∷ []
advertisers (suc (suc (suc x))) = []

-- Settings and scenario

abbrev pub settings : ℕ → RouterSettings
settings x = settings_of x (attached x) (is_router x)

abbrev pub scenario : Scenario
scenario = scenario_of (settings 0 ∷ settings 1 ∷ settings 2 ∷ []) arcs are_routers are_arcs

-- States

abbrev pub key : ℕ → LinkKey
key y = record { addr = addr y }

abbrev pub link : ℕ → ℕ → Link
link x y = link_of y (is_middle x)

abbrev pub link_entry : ℕ → ℕ → LinkKey × (Link × ℕ)
link_entry x y = (key y, (link x y, 9))

abbrev pub neighbour : ℕ → ℕ → Neighbour
neighbour x y = neighbour_of y (is_middle x)

abbrev pub neighbour_entry : ℕ → ℕ → Addr4 × (Neighbour × ℕ)
neighbour_entry x y = (addr y, (neighbour x y, 9))

-- by way of the middle router
abbrev pub two_hop_key : ℕ → TwoHopKey
two_hop_key z = record { link = key 1; addr = addr z }

abbrev pub far : TwoHop
far = record { metric_in = Some one; metric_out = Some one }

abbrev pub two_hop_entry : ℕ → TwoHopKey × (TwoHop × ℕ)
two_hop_entry z = (two_hop_key z, (far, 9))

abbrev pub advertiser_entry : ℕ → Addr4 × (Advertiser × ℕ)
advertiser_entry w = (addr w, (record { ansn = 0 }, 9))

-- the tuple of an address in the middle router's rows, by the functions that make its key and its value
abbrev pub row_entry : {K V : Type 0} → (Addr4 → Addr4 → K) → (ℕ → Metric → V) → ℕ → K × (V × ℕ)
row_entry key_of tuple_of z = (key_of (addr 1) (addr z), (tuple_of 0 one, 9))

abbrev pub router_key : Addr4 → Addr4 → RouterKey
router_key from to = record { from = from; to = to }

abbrev pub router_tuple : ℕ → Metric → RouterTuple
router_tuple ansn metric = record { ansn = ansn; metric = metric }

abbrev pub address_key : Addr4 → Addr4 → AddressKey
address_key from a = record { from = from; addr = a }

abbrev pub address_tuple : ℕ → Metric → AddressTuple
address_tuple ansn metric = record { ansn = ansn; metric = metric }

abbrev pub network_key : ℕ → NetworkKey
network_key g = record { from = addr g; net = net }

abbrev pub network_tuple : NetworkTuple
network_tuple = record { ansn = 0; distance = 1; metric = one }

abbrev pub network_entry : ℕ → NetworkKey × (NetworkTuple × ℕ)
network_entry g = (network_key g, (network_tuple, 9))

-- the advertised row of a router
abbrev pub host_row : ℕ → TcRow
host_row z = record { dest = host (addr z); origin = true; routable = true; gateway = None; metric = Some one }

-- that of the network
abbrev pub net_row : TcRow
net_row = record { dest = net; origin = false; routable = false; gateway = Some 1; metric = Some one }

abbrev pub rows : ℕ → List TcRow
rows zero = []
rows (suc zero) = host_row 0 ∷ host_row 2 ∷ []
rows (suc (suc zero)) = net_row ∷ []
rows (suc (suc (suc x))) = []

-- a route by way of a peer
abbrev pub route : NetAddr → ℕ → ℕ → NetAddr → Route
route dest y cost parent = record { dest = dest; next = addr y; iface = 0; metric = cost; parent = parent }

-- the route to router z by way of y, at that cost, with router p as its parent
abbrev pub host_route : ℕ → ℕ → ℕ → ℕ → Route
host_route z y cost p = route (host (addr z)) y cost (host (addr p))

-- the route to the network, with the last router as its parent
abbrev pub net_route : ℕ → ℕ → Route
net_route y cost = route net y cost (host (addr 2))

-- worked out by hand: each step costs 1, and the network 1 from its gateway
abbrev pub routes : ℕ → List Route
routes zero = host_route 1 1 1 0 ∷ host_route 2 1 2 1 ∷ net_route 1 3 ∷ []
routes (suc zero) = host_route 0 0 1 1 ∷ host_route 2 2 1 1 ∷ net_route 2 2 ∷ []
routes (suc (suc zero)) = host_route 0 1 2 1 ∷ host_route 1 1 1 2 ∷ []
routes (suc (suc (suc x))) = []

abbrev pub state : ℕ → State
state x = plain_state (settings x)
    (record {
      neighbourhood = record {
        links = map (link_entry x) (peers x) ∷ [];
        two_hops = map two_hop_entry (beyond x) ∷ [];
        neighbours = map (neighbour_entry x) (peers x);
        losts = [];
      };
      topology = record {
        advertisers = map advertiser_entry (advertisers x);
        routers = map (row_entry router_key router_tuple) (told x);
        addresses = map (row_entry address_key address_tuple) (told x);
        networks = map network_entry (gateways x);
      };
      noted = quiet;
    })
    (record { flooding = map addr (relays x) ∷ []; routing = map addr (relays x) }) (routes x) (rows x)

abbrev pub states : List State
states = state 0 ∷ state 1 ∷ state 2 ∷ []

-- Who knows whom, case by case

pub each_pair : (P : ℕ → ℕ → Type 0) → P 0 1 → P 1 0 → P 1 2 → P 2 1 → (x y : ℕ) → Contains (peers x) y → P x y
each_pair P a b c d x y h = grind (arith, common_steps)

pub each_beyond : (P : ℕ → ℕ → Type 0) → P 0 2 → P 2 0 → (x z : ℕ) → Contains (beyond x) z → P x z
each_beyond P a b x z h = grind (arith, common_steps)

pub each_told : (P : ℕ → ℕ → Type 0) → P 0 0 → P 0 2 → P 2 0 → P 2 2 → (x z : ℕ) → Contains (told x) z → P x z
each_told P a b c d x z h = grind (arith, common_steps)

pub each_gateway : (P : ℕ → ℕ → Type 0) → P 0 2 → P 1 2 → (x g : ℕ) → Contains (gateways x) g → P x g
each_gateway P a b x g h = grind (arith, common_steps)

pub each_relay : (P : ℕ → ℕ → Type 0) → P 0 1 → P 2 1 → (x y : ℕ) → Contains (relays x) y → P x y
each_relay P a b x y h = grind (arith, common_steps)

pub middle_is : (x : ℕ) → IsTrue (is_middle x) → x ≡ 1
middle_is x h = grind (arith, common_steps)

pub peers_back : (x y : ℕ) → Contains (peers x) y → Contains (peers y) x
peers_back = each_pair (λ x y. Contains (peers y) x) (here 0 (2 ∷ [])) (here 1 []) (here 1 []) (1, omega arith, refl)

-- Addresses, and what a state holds

pub same_number : (x y : ℕ) → addr x ≡ addr y → x ≡ y
same_number x y e = let f : suc x ≡ suc y = ap (λ (a : Addr4). a.0) e in omega arith

-- an address of the router with these settings is its one
pub address_on : (y j : ℕ) (a : Addr4) → HasAddressOn (settings y) j a → (j ≡ 0) × (a ≡ addr y)
address_on y j a on = grind (arith, common_steps)

pub has_own : (y : ℕ) → HasAddressOn (settings y) 0 (addr y)
has_own y = (face y, refl, here (addr y) [])

pub link_is : (x i : ℕ) (k : LinkKey) (l : Link) → HasLink (state x) i k l → (i ≡ 0) × (y : ℕ) × Contains (peers x) y × (k ≡ key y) × (l ≡ link x y)
link_is x i k l has = grind (arith, common_steps, unmapped)

pub link_has : (x y : ℕ) → Contains (peers x) y → HasLink (state x) 0 (key y) (link x y)
link_has x y c = (map (link_entry x) (peers x), refl, (9, contains_map (link_entry x) (peers x) y c))

pub symmetric_is : (x : ℕ) (o : Addr4) (n : Neighbour) → HasSymmetric (state x) o n → (y : ℕ) × Contains (peers x) y × (o ≡ addr y) × (n ≡ neighbour x y)
symmetric_is x o n has =
    let ((until, stands), _) = has in
    let (y, c, is) = unmapped (neighbour_entry x) (peers x) (o, (n, until)) stands in
    (y, c, ap (λ (t : Addr4 × (Neighbour × ℕ)). t.0) is, ap (λ (t : Addr4 × (Neighbour × ℕ)). t.1.0) is)

pub symmetric_has : (x y : ℕ) → Contains (peers x) y → HasSymmetric (state x) (addr y) (neighbour x y)
symmetric_has x y c = ((9, contains_map (neighbour_entry x) (peers x) y c), refl)

pub two_hop_is : (x i : ℕ) (k : TwoHopKey) (t : TwoHop) → HasTwoHop (state x) i k t → (i ≡ 0) × (z : ℕ) × Contains (beyond x) z × (k ≡ two_hop_key z) × (t ≡ far)
two_hop_is x i k t has = grind (arith, common_steps, unmapped)

pub two_hop_has : (x z : ℕ) → Contains (beyond x) z → HasTwoHop (state x) 0 (two_hop_key z) far
two_hop_has x z c = (map two_hop_entry (beyond x), refl, (9, contains_map two_hop_entry (beyond x) z c))
