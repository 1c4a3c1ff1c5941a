-- The neighbour graphs from which a router chooses its relays, and the relays that it may have chosen.
use Rattle.std.specs.Prelude.{◌≡◌, ℕ, ◌↔◌, List, Contains, Some, slice_get, length}
use Rattle.mesh_atoms.specs.declared.addr.Addr4.{Addr4}
use Rattle.mesh_atoms.specs.declared.codes.metric.Metric.{Metric}
use Rattle.mesh_atoms.specs.declared.tuples.LinkKey.{LinkKey}
use Rattle.mesh_atoms.specs.declared.tuples.TwoHopKey.{TwoHopKey}
use Rattle.mesh_atoms.specs.declared.tuples.Link.{Link}
use Rattle.mesh_atoms.specs.declared.tuples.TwoHop.{TwoHop}
use Rattle.mesh_atoms.specs.declared.tuples.Neighbour.{Neighbour}
use Rattle.mesh_atoms.specs.declared.graphs.Near.{Near}
use Rattle.mesh_atoms.specs.declared.graphs.Direct.{Direct}
use Rattle.mesh_atoms.specs.declared.graphs.Far.{Far}
use Rattle.mesh_atoms.specs.declared.graphs.NeighbourGraph.{NeighbourGraph}
use Rattle.mesh_atoms.specs.Codes.Codes.{metric_value}
use Rattle.mesh_atoms.specs.Words.{IsLeastMetric, IsAscending}
use Rattle.mesh_atoms.specs.Relays.{Covers, Needed}
use Rattle.mesh_atoms.specs.declared.tuples.LinkState.TheVariants.{Symmetric as Is_symmetric}
use Rattle.mesh_atoms.specs.State.{State, state_of, HasLink, HasTwoHop, HasSymmetric, HasSymmetricWith}

-- the graph for routing relays (RFC 7181, section 18.5): neighbours by their metrics to the router, and each 2-hop tuple by its
-- metric to the neighbour
pub record IsRoutingGraph (s : State) (g : NeighbourGraph) : Type 0 where
  pub near : (e : Near) → Contains g.near e ↔
      ((n : Neighbour) × (m : Metric) × HasSymmetric s e.id n × (n.metric_in ≡ Some m) × (metric_value m ≡ e.cost) × (n.willing.routing ≡ e.will))
  pub direct : (e : Direct) → Contains g.direct e ↔
      ((o : Addr4) × (n : Neighbour) × (m : Metric) × HasSymmetricWith s e.addr o n × (n.metric_in ≡ Some m) × (metric_value m ≡ e.cost))
  pub far : (e : Far) → Contains g.far e ↔
      ((i : ℕ) × (key : TwoHopKey) × (t : TwoHop) × (n : Neighbour) × (k m : Metric) × HasTwoHop s i key t
      × HasSymmetricWith s key.link.addr e.via n × (n.metric_in ≡ Some k)
      × (key.addr ≡ e.addr) × (t.metric_in ≡ Some m) × (metric_value m ≡ e.cost))

-- the metric to a neighbour over interface i: the least known one of its SYMMETRIC links there
abbrev pub IsMetricOver : State → ℕ → ℕ → Neighbour → Metric → Type 0
IsMetricOver s now i n m =
    IsLeastMetric (λ k. (key : LinkKey) × (link : Link) × HasLink s i key link × Contains n.addrs key.addr
    × (state_of link now ≡ Is_symmetric) × (link.link_out ≡ Some k)) (Some m)

-- the graph for the flooding relays of interface i (RFC 7181, section 18.4): neighbours by the metrics to them over i, and each
-- 2-hop tuple of i by the neighbour's metric to it
pub record IsFloodingGraph (s : State) (now i : ℕ) (g : NeighbourGraph) : Type 0 where
  pub near : (e : Near) → Contains g.near e ↔
      ((n : Neighbour) × (m : Metric) × HasSymmetric s e.id n × IsMetricOver s now i n m × (metric_value m ≡ e.cost) × (n.willing.flooding ≡ e.will))
  pub direct : (e : Direct) → Contains g.direct e ↔
      ((o : Addr4) × (n : Neighbour) × (m : Metric) × HasSymmetricWith s e.addr o n × IsMetricOver s now i n m × (metric_value m ≡ e.cost))
  pub far : (e : Far) → Contains g.far e ↔
      ((key : TwoHopKey) × (t : TwoHop) × (n : Neighbour) × (k m : Metric) × HasTwoHop s i key t
      × HasSymmetricWith s key.link.addr e.via n × IsMetricOver s now i n k
      × (key.addr ≡ e.addr) × (t.metric_out ≡ Some m) × (metric_value m ≡ e.cost))

-- relays that may be chosen from a graph (RFC 7181, section 18.3): they cover, and each is needed
pub record AreRelaysOf (g : NeighbourGraph) (relays : List Addr4) : Type 0 where
  pub covers : Covers g relays
  pub needed : Needed g relays
  pub ascending : IsAscending relays

-- the router's relays at now: for flooding on each interface, and for routing
pub record AreRelays (s : State) (now : ℕ) : Type 0 where
  pub interfaces : length s.relays.flooding ≡ length s.settings.interfaces
  pub flooding : (i : ℕ) (relays : List Addr4) → slice_get s.relays.flooding i ≡ Some relays →
      (g : NeighbourGraph) × IsFloodingGraph s now i g × AreRelaysOf g relays
  pub routing : (g : NeighbourGraph) × IsRoutingGraph s g × AreRelaysOf g s.relays.routing
