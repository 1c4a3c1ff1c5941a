-- Two routers that hear each other: their settings, their scenario and their states.
use Rattle.mesh_laws.proofs.Common.{common_steps, ◌≡◌, ℕ, suc, ◌≢◌, refl, ap, arith, List, [], ◌∷◌, map, false, Addr4, LinkKey, Link, TwoHopKey, TwoHop, Neighbour, RouterSettings, RadioArc, Scenario, Route, host, AreRouters, AreArcs, ends_of, IsRouter, State, HasLink, HasTwoHop, HasSymmetric, HasAddressOn, quiet, contains_head as here}
pub use Rattle.mesh_laws.proofs.PlainRouters.{one, addr, face, arc}
use Rattle.mesh_laws.proofs.PlainRouters.{settings_of, scenario_of, link_of, neighbour_of, plain_state}
use Rattle.mesh_laws.proofs.PlainRoutersInRange.{letter, router_with}

-- Settings and scenario

pub is_router : (x : ℕ) → IsRouter (letter x ∷ []) 0 0 ((letter x ∷ []) ∷ []) (addr x ∷ []) []
is_router x = router_with x [] (omega arith) refl refl

abbrev pub settings : ℕ → RouterSettings
settings x = settings_of x [] (is_router x)

pub are_routers : AreRouters ((97 ∷ []) ∷ (98 ∷ []) ∷ []) (addr 0 ∷ addr 1 ∷ []) []
are_routers = grind (arith, common_steps)

abbrev pub arcs : List RadioArc
arcs = arc 0 1 ∷ arc 1 0 ∷ []

pub are_arcs : AreArcs (1 ∷ 1 ∷ []) (map ends_of arcs)
are_arcs = record { few = omega arith; join_routers = refl; distinct = refl }

abbrev pub scenario : Scenario
scenario = scenario_of (settings 0 ∷ settings 1 ∷ []) arcs are_routers are_arcs

-- States

abbrev pub link : ℕ → Link
link y = link_of y false

abbrev pub neighbour : ℕ → Neighbour
neighbour y = neighbour_of y false

abbrev pub route : ℕ → ℕ → Route
route x y = record { dest = host (addr y); next = addr y; iface = 0; metric = 1; parent = host (addr x) }

abbrev pub state : ℕ → ℕ → State
state x y = plain_state (settings x)
    (record {
      neighbourhood = record {
        links = ((record { addr = addr y }, (link y, 9)) ∷ []) ∷ [];
        two_hops = [] ∷ [];
        neighbours = (addr y, (neighbour y, 9)) ∷ [];
        losts = [];
      };
      topology = record { advertisers = []; routers = []; addresses = []; networks = [] };
      noted = quiet;
    })
    (record { flooding = [] ∷ []; routing = [] }) (route x y ∷ []) []

abbrev pub states : List State
states = state 0 1 ∷ state 1 0 ∷ []

-- Addresses, and what a state of the two holds

-- an address of the router with these settings is its one
pub address_on : (y j : ℕ) (a : Addr4) → HasAddressOn (settings y) j a → (j ≡ 0) × (a ≡ addr y)
address_on y j a on = grind (arith, common_steps)

pub has_own : (y : ℕ) → HasAddressOn (settings y) 0 (addr y)
has_own y = (face y, refl, here (addr y) [])

pub apart : {x y : ℕ} → x ≢ y → addr x ≡ addr y → ⊥
apart {x} {y} ne e = let f : suc x ≡ suc y = ap (λ (a : Addr4). a.0) e in ne (omega arith)

-- the one neighbour
pub symmetric_is : (x y : ℕ) (o : Addr4) (n : Neighbour) → HasSymmetric (state x y) o n → (o ≡ addr y) × (n ≡ neighbour y)
symmetric_is x y o n has = grind (arith, common_steps)

pub symmetric : (x y : ℕ) → HasSymmetric (state x y) (addr y) (neighbour y)
symmetric x y = ((9, here _ []), refl)

pub link_is : (x y i : ℕ) (key : LinkKey) (l : Link) → HasLink (state x y) i key l → (i ≡ 0) × (key ≡ record { addr = addr y }) × (l ≡ link y)
link_is x y i key l has = grind (arith, common_steps)

pub no_two_hop : (x y i : ℕ) (key : TwoHopKey) (t : TwoHop) → HasTwoHop (state x y) i key t → ⊥
no_two_hop x y i key t has = grind (arith, common_steps)
