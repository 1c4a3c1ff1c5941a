-- The relay lines of an event, one by one: of an interface, or for routing where there is none.
use Rattle.std.specs.Prelude.{◌≡◌, ◌<◌, ◌^◌, ℕ, List, [], ◌∷◌, ◌++◌, All, true, false, cond, Option, Some, None, map, drop, length, slice_get}
use Rattle.std.specs.List.{enumerate_from}
use Rattle.mesh_atoms.specs.declared.addr.Addr4.{Addr4}
use Rattle.mesh_atoms.specs.declared.graphs.NeighbourGraph.{NeighbourGraph}
use Rattle.mesh_atoms.specs.declared.settings.RouterSettings.{RouterSettings}
use Rattle.mesh_atoms.specs.declared.tuples.Relays.{Relays}
use Rattle.mesh_atoms.specs.RelayGraphs.{AreRelays, AreRelaysOf, IsFloodingGraph, IsRoutingGraph}
use Rattle.mesh_atoms.specs.State.{State}
use Rattle.mesh_trace.specs.Positions.Alike.{HasAddresses}
use Rattle.mesh_trace.specs.Positions.Due.{none_told}
use Rattle.mesh_trace.specs.Positions.Standing.{Item, Flooding, Routing, relay_items}
use Rattle.mesh_replay.specs.declared.checking.case.Case.{Case}
use Rattle.mesh_replay.specs.declared.checking.case.CheckedEvent.{CheckedEvent}
use Rattle.mesh_replay.specs.declared.checking.case.Progress.{Progress}
use Rattle.mesh_replay.specs.declared.checking.router.Before.{Before}
use Rattle.mesh_replay.specs.Checking.Cases.{MayBeIn, IsProgress, LeadsPast}
use Rattle.mesh_replay.specs.Checking.Kept.{IsSoundRouter, StandAgain, with_relays}

-- an event has begun, of which no relays were told yet
pub record IsBegun (event : CheckedEvent) (s : State) (before : Before) : Type 0 where
  pub is_in : MayBeIn event s
  pub sound : IsSoundRouter s
  pub addresses : HasAddresses s
  pub none : s.relays ≡ none_told
  pub stand : StandAgain s before

-- addresses of 32 bits
abbrev pub AreWide : List Addr4 → Type 0
AreWide addrs = All (λ a. a.0 < 2 ^ 32) addrs

-- the graph from which relays are chosen
abbrev pub IsGraphFor : State → Option ℕ → NeighbourGraph → Type 0
IsGraphFor s (Some i) g = IsFloodingGraph s s.last i g
IsGraphFor s None g = IsRoutingGraph s g

-- they may be chosen
pub record MayTell (s : State) (iface : Option ℕ) (relays : List Addr4) : Type 0 where
  pub graph : NeighbourGraph
  pub is_graph : IsGraphFor s iface graph
  pub are : AreRelaysOf graph relays

-- relays of a router for an interface, or for routing
abbrev pub relays_for : Relays → Option ℕ → Option (List Addr4)
relays_for relays (Some i) = slice_get relays.flooding i
relays_for relays None = Some relays.routing

-- the relays of the event before, where they are for sure good again
abbrev pub again : Before → Option ℕ → Option (List Addr4)
again before iface = cond before.stand (relays_for before.relays iface) None

abbrev pub IsAgain : Before → Option ℕ → List Addr4 → Type 0
IsAgain before iface relays = again before iface ≡ Some relays

-- what is left to be told when the relays of so many interfaces were
abbrev pub relays_left : RouterSettings → ℕ → List Item
relays_left r n = map (λ f. Flooding f.0) (enumerate_from n (drop n r.interfaces)) ++ (Routing ∷ [])

-- the router of which flooding relays were told
abbrev pub with_flooded : State → List (List Addr4) → State
with_flooded s told = with_relays s (record { flooding = told; routing = [] })

-- the relays of the first interfaces, so many, were told, and may be chosen
pub record HasTold (case : Case) (old new : Progress) (x : ℕ) (s : State) (n : ℕ) (told : List (List Addr4)) : Type 0 where
  pub progress : IsProgress case new
  pub count : length told ≡ n
  pub chosen : (i : ℕ) (relays : List Addr4) → slice_get told i ≡ Some relays → MayTell s (Some i) relays
  pub leads : LeadsPast case old new x s (with_flooded s told) (relay_items s.settings) (relays_left s.settings n) true

-- the relay lines don't all fit
pub record StopsRelays (case : Case) (old new : Progress) (x : ℕ) (s : State) : Type 0 where
  pub progress : IsProgress case new
  pub stops : LeadsPast case old new x s s (relay_items s.settings) [] false

-- the flooding relays are told as far as their lines fit
abbrev pub TellsFlooding : Case → Progress → Progress → CheckedEvent → State → Option (List (List Addr4)) → Type 0
TellsFlooding case old new event s None = StopsRelays case old new event.router s
TellsFlooding case old new event s (Some told) = HasTold case old new event.router s (length s.settings.interfaces) told

-- all relays were told, and may be chosen
pub record HasRelays (case : Case) (old new : Progress) (x : ℕ) (s : State) (relays : Relays) : Type 0 where
  pub progress : IsProgress case new
  pub chosen : AreRelays (with_relays s relays) s.last
  pub leads : LeadsPast case old new x s (with_relays s relays) (relay_items s.settings) [] true

-- the relays are told as far as their lines fit
abbrev pub TellsRelays : Case → Progress → Progress → CheckedEvent → State → Option Relays → Type 0
TellsRelays case old new event s None = StopsRelays case old new event.router s
TellsRelays case old new event s (Some relays) = HasRelays case old new event.router s relays
