-- The way of a data packet over the routes of a network's routers.
use Rattle.std.specs.Prelude.{◌≡◌, ℕ, ◌+◌, ◌≤◌, ◌<◌, List, [], ◌∷◌, Contains, length}
use Rattle.std.specs.List.{sum_by}
use Rattle.mesh_atoms.specs.declared.addr.Addr4.{Addr4}
use Rattle.mesh_atoms.specs.declared.addr.NetAddr.{NetAddr}
use Rattle.mesh_atoms.specs.declared.codes.metric.Metric.{Metric}
use Rattle.mesh_atoms.specs.declared.graphs.Route.{Route}
use Rattle.mesh_atoms.specs.declared.settings.RouterSettings.{RouterSettings}
use Rattle.mesh_atoms.specs.declared.settings.Scenario.{Scenario}
use Rattle.mesh_atoms.specs.Codes.Codes.{metric_value}
use Rattle.mesh_atoms.specs.Radio.{Leads, Router, AddressOf, Attaches}
use Rattle.mesh_atoms.specs.Settled.{At}
use Rattle.mesh_atoms.specs.State.{State, HasAddressOn}
use Rattle.mesh_atoms.specs.NextHop.{Holds, IsLongest, HasNoRouteTo}
use Rattle.mesh_data.specs.declared.trip.End.{End}
use Rattle.mesh_data.specs.declared.trip.End.TheVariants.{Arrived, NoRoute, NoArc, TooFar}
use Rattle.mesh_data.specs.declared.trip.Hop.{Hop}
use Rattle.mesh_data.specs.declared.trip.Trip.{Trip}

-- What a router does with a packet to an address

module _ (s : Scenario) (states : List State) (a : Addr4) where
  -- router x delivers it to a network of its own, at that metric: of the own networks that have the address it has the longest
  -- prefix, and each route to the address has a shorter one
  pub record Delivers (x k : ℕ) : Type 0 where
    pub net : NetAddr
    pub attaches : Attaches s x net k
    pub holds : Holds net a
    pub longest : (other : NetAddr) (c : ℕ) → Attaches s x other c → Holds other a → other.prefix ≤ net.prefix
    pub state : State
    pub at : At states x state
    pub beyond : (row : Route) → Contains state.routes row → Holds row.dest a → row.dest.prefix < net.prefix

  -- router x sends it on by the route with the longest prefix, and no own network that has the address has a longer one
  pub record TakesRoute (x : ℕ) (row : Route) : Type 0 where
    pub state : State
    pub at : At states x state
    pub longest : IsLongest state.routes a row
    pub within : (net : NetAddr) (c : ℕ) → Attaches s x net c → Holds net a → net.prefix ≤ row.dest.prefix

  -- router x has neither a route nor an own network for it
  pub record HasNoWay (x : ℕ) : Type 0 where
    pub state : State
    pub at : At states x state
    pub no_route : HasNoRouteTo state.routes a
    pub no_network : (net : NetAddr) (c : ℕ) → Attaches s x net c → Holds net a → ⊥

-- an arc leads from router x by the route's interface to an interface of router y that has the next hop's address
pub record LeadsToNext (s : Scenario) (x : ℕ) (row : Route) (y : ℕ) (m : Metric) : Type 0 where
  pub j : ℕ
  pub settings : RouterSettings
  pub router : Router s y settings
  pub on : HasAddressOn settings j row.next
  pub arc : Leads s x row.iface y j m

-- The whole way

-- a hop is one by the route of a router that doesn't have the address
pub record IsHop (s : Scenario) (states : List State) (a : Addr4) (hop : Hop) : Type 0 where
  pub not_here : AddressOf s hop.from a → ⊥
  pub row : Route
  pub routes : TakesRoute s states a hop.from row
  pub by : hop.iface ≡ row.iface
  pub arc : Metric
  pub reaches : LeadsToNext s hop.from row hop.to arc
  pub metric : hop.metric ≡ metric_value arc

-- each hop begins where the one before ended: from router x to the last one
abbrev pub AreChained : ℕ → List Hop → ℕ → Type 0
AreChained x [] last = x ≡ last
AreChained x (hop ∷ hops) last = (hop.from ≡ x) × AreChained hop.to hops last

-- how a trip ends at router x after so many hops, and what that adds to its metric
pub data EndsWith (s : Scenario) (states : List State) (a : Addr4) (x hops : ℕ) : End → ℕ → Type 0 where
  At_address : AddressOf s x a → EndsWith s states a x hops Arrived 0
  At_network : {k : ℕ} → (AddressOf s x a → ⊥) → Delivers s states a x k → EndsWith s states a x hops Arrived k
  Without_route : (AddressOf s x a → ⊥) → HasNoWay s states a x → EndsWith s states a x hops NoRoute 0
  After_all : (AddressOf s x a → ⊥) → (row : Route) → TakesRoute s states a x row → hops ≡ length s.routers →
      EndsWith s states a x hops TooFar 0
  Without_arc : (AddressOf s x a → ⊥) → (row : Route) → TakesRoute s states a x row → hops < length s.routers →
      ((y : ℕ) (m : Metric) → LeadsToNext s x row y m → ⊥) → EndsWith s states a x hops NoArc 0

-- the trip of a packet to the address from router `from`
pub record IsTrip (s : Scenario) (states : List State) (from : ℕ) (a : Addr4) (trip : Trip) : Type 0 where
  pub chain : AreChained from trip.hops trip.last
  pub each : (hop : Hop) → Contains trip.hops hop → IsHop s states a hop
  pub few : length trip.hops ≤ length s.routers
  pub added : ℕ
  pub ends : EndsWith s states a trip.last (length trip.hops) trip.end added
  pub metric : trip.metric ≡ sum_by (λ h. h.metric) trip.hops + added
