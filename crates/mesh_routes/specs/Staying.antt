-- When routes, and the graphs from which relays are chosen, stay: all that they are made of is the same.
use Rattle.std.specs.Prelude.{◌≡◌, ℕ, ◌↔◌}
use Rattle.mesh_atoms.specs.declared.addr.Addr4.{Addr4}
use Rattle.mesh_atoms.specs.declared.addr.NetAddr.{NetAddr}
use Rattle.mesh_atoms.specs.declared.codes.metric.Metric.{Metric}
use Rattle.mesh_atoms.specs.declared.graphs.NeighbourGraph.{NeighbourGraph}
use Rattle.mesh_atoms.specs.declared.tuples.LinkKey.{LinkKey}
use Rattle.mesh_atoms.specs.declared.tuples.Neighbour.{Neighbour}
use Rattle.mesh_atoms.specs.declared.tuples.TwoHop.{TwoHop}
use Rattle.mesh_atoms.specs.declared.tuples.TwoHopKey.{TwoHopKey}
use Rattle.mesh_atoms.specs.Live.{HasTables}
use Rattle.mesh_atoms.specs.RelayGraphs.{IsRoutingGraph, IsFloodingGraph}
use Rattle.mesh_atoms.specs.Routes.{RouteArc, IsOutside, IsWayTo, AreRoutes}
use Rattle.mesh_atoms.specs.Sound.{SoundNeighbourhood, SoundTopology}
use Rattle.mesh_atoms.specs.State.{State, HasTwoHop, HasSymmetric, IsOriginator}
use Rattle.mesh_nbrs.specs.Same.{SameNear}
use Rattle.mesh_topo.specs.Same.{SameAdvertised}

-- the same originator, and the same own addresses and networks
pub record SameOwn (s t : State) : Type 0 where
  pub originator : (a : Addr4) → IsOriginator s.settings a ↔ IsOriginator t.settings a
  pub outside : (node : NetAddr) → IsOutside s node ↔ IsOutside t node

-- the same arcs of the own graph
abbrev pub SameArcs : State → State → Type 0
SameArcs s t = (a b : NetAddr) (m : ℕ) → RouteArc s a b m ↔ RouteArc t a b m

-- the same symmetric neighbours, and the same ways to them: for the one at now and for the other at later
pub record SameWays (s : State) (now : ℕ) (t : State) (later : ℕ) : Type 0 where
  pub neighbours : (o : Addr4) (n : Neighbour) → HasSymmetric s o n ↔ HasSymmetric t o n
  pub ways : (n : Neighbour) (i : ℕ) (key : LinkKey) (m : Metric) → IsWayTo s now n i key m ↔ IsWayTo t later n i key m

-- the same 2-hop tuples
abbrev pub SameTwoHops : State → State → Type 0
SameTwoHops s t = (i : ℕ) (key : TwoHopKey) (x : TwoHop) → HasTwoHop s i key x ↔ HasTwoHop t i key x

-- the same arcs, neighbours and ways keep the routes
abbrev pub RoutesStay : Type 0
RoutesStay =
    (s t : State) (now later : ℕ) (self : Addr4) → SameOwn s t → SameArcs s t → SameWays s now t later → t.routes ≡ s.routes →
    AreRoutes s now self → AreRoutes t later self

-- the same neighbours, ways and 2-hop tuples keep the graphs
abbrev pub GraphsStay : Type 0
GraphsStay =
    (s t : State) (now later : ℕ) (g : NeighbourGraph) → SameWays s now t later → SameTwoHops s t →
    (IsRoutingGraph s g → IsRoutingGraph t g) × ((i : ℕ) → IsFloodingGraph s now i g → IsFloodingGraph t later i g)

-- the same settings, the same neighbourhood but for moments, and others that advertise the same: then all of that is the same
abbrev pub BasesGiveSame : Type 0
BasesGiveSame =
    (s t : State) (now later : ℕ) → SoundNeighbourhood s.settings now s.bases.neighbourhood → HasTables t.bases.neighbourhood →
    SoundTopology s.settings now s.bases.topology → SoundTopology t.settings later t.bases.topology →
    t.settings ≡ s.settings → SameNear s.bases.neighbourhood now t.bases.neighbourhood later →
    SameAdvertised s.bases.topology t.bases.topology → SameOwn s t × SameArcs s t × SameWays s now t later × SameTwoHops s t
