-- Networks that meet the premises of the law of settled routes.
use Rattle.std.specs.Prelude.{◌≡◌, ℕ, List, [], ◌∷◌, map, length}
use Rattle.mesh_atoms.specs.declared.addr.Addr4.{Addr4}
use Rattle.mesh_atoms.specs.declared.addr.NetAddr.{NetAddr}
use Rattle.mesh_atoms.specs.declared.tuples.TwoHopKey.{TwoHopKey}
use Rattle.mesh_atoms.specs.declared.tuples.TwoHop.{TwoHop}
use Rattle.mesh_atoms.specs.declared.settings.Scenario.{Scenario}
use Rattle.mesh_atoms.specs.Base.{host}
use Rattle.mesh_atoms.specs.Radio.{Adjacent, HopCosts, AddressOf, Attaches}
use Rattle.mesh_atoms.specs.Settled.{At}
use Rattle.mesh_atoms.specs.State.{State, HasTwoHop}
use Rattle.mesh_paths.specs.SettledRoutes.{IsSettledNetwork, HasRow}

-- two routers that hear each other are a settled network, in which each has a row of the other
abbrev pub TwoRoutersSettle : Type 0
TwoRoutersSettle = (s : Scenario) × (states : List State) × (now : ℕ) × IsSettledNetwork s states now
    × (length s.routers ≡ 2) × Adjacent s 0 1
    × ((x : ℕ) (p : State) → At states x p → (y : ℕ) (a : Addr4) → AddressOf s y a → (x ≡ y → ⊥) → (c : ℕ) × HasRow p (host a) c)

-- Three routers in a row, whose addresses are a, b and c, and of which the last one attaches a network

-- a router's routes are these, by destination and metric
abbrev pub HasRoutes : State → List (NetAddr × ℕ) → Type 0
HasRoutes p list = map (λ r. (r.dest, r.metric)) p.routes ≡ list

-- a router advertises these destinations
abbrev pub HasAdvertised : State → List NetAddr → Type 0
HasAdvertised p dests = map (λ r. r.dest) p.rows ≡ dests

-- a router has a 2-hop tuple of the address
abbrev pub HasTwoHopTo : State → Addr4 → Type 0
HasTwoHopTo p a = (i : ℕ) × (key : TwoHopKey) × (t : TwoHop) × HasTwoHop p i key t × (key.addr ≡ a)

-- the outer two hear the middle one alone, and have chosen it as their relay; each step costs 1, and so does the network behind the
-- last one
pub record AreInARow (s : Scenario) (first second third : State) (a b c : Addr4) (net : NetAddr) : Type 0 where
  pub addresses : AddressOf s 0 a × AddressOf s 1 b × AddressOf s 2 c
  pub gateway : Attaches s 2 net 1
  pub first_step : HopCosts s 0 1 1
  pub second_step : HopCosts s 1 2 1
  pub no_shorter : Adjacent s 0 2 → ⊥
  pub relays : (first.relays.routing ≡ b ∷ []) × (second.relays.routing ≡ []) × (third.relays.routing ≡ b ∷ [])
  pub two_hops : HasTwoHopTo first c × HasTwoHopTo third a
  pub advertised : HasAdvertised second (host a ∷ host c ∷ []) × HasAdvertised third (net ∷ [])
  pub first_routes : HasRoutes first ((host b, 1) ∷ (host c, 2) ∷ (net, 3) ∷ [])
  pub second_routes : HasRoutes second ((host a, 1) ∷ (host c, 1) ∷ (net, 2) ∷ [])
  pub third_routes : HasRoutes third ((host a, 2) ∷ (host b, 1) ∷ [])

-- three routers in a row are a settled network
abbrev pub ThreeRoutersSettle : Type 0
ThreeRoutersSettle = (s : Scenario) × (first second third : State) × (now : ℕ) × (a b c : Addr4) × (net : NetAddr)
    × IsSettledNetwork s (first ∷ second ∷ third ∷ []) now × AreInARow s first second third a b c net
