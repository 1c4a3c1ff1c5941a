-- The arcs of a router's own graph, one by one.
use Rattle.std.specs.Prelude.{ℕ, Option, Some, None, cond, nat_eq}
use Rattle.mesh_atoms.specs.declared.addr.Addr4.{Addr4}
use Rattle.mesh_atoms.specs.declared.addr.NetAddr.{NetAddr}
use Rattle.mesh_atoms.specs.declared.codes.metric.Metric.{Metric}
use Rattle.mesh_atoms.specs.declared.graphs.Arc4.{Arc4}
use Rattle.mesh_atoms.specs.declared.tuples.TwoHopKey.{TwoHopKey}
use Rattle.mesh_atoms.specs.declared.tuples.TwoHop.{TwoHop}
use Rattle.mesh_atoms.specs.Base.{host}
use Rattle.mesh_atoms.specs.Codes.Codes.{metric_value}
use Rattle.mesh_routes.specs.declared.hops.owners.SymmetricNeighbour.{SymmetricNeighbour}
use Rattle.mesh_routes.specs.Hops.Owners.{OwnerMap, owner_at}

-- an arc at the cost of a metric
abbrev pub arc_at : NetAddr → NetAddr → Metric → Arc4
arc_at from to m = record { from = from; to = to; metric = metric_value m }

-- the same, where the metric is known
abbrev pub known_arc : NetAddr → NetAddr → Option Metric → Option Arc4
known_arc from to None = None
known_arc from to (Some m) = Some (arc_at from to m)

-- the arc from a neighbour to a 2-hop address, if it is willing to route
abbrev pub willing_arc : Option SymmetricNeighbour → Addr4 → Option Metric → Option Arc4
willing_arc None a m = None
willing_arc (Some owner) a m = cond (nat_eq owner.willing.routing 0) None (known_arc (host owner.originator) (host a) m)

-- the arc of a 2-hop tuple
abbrev pub two_hop_arc : OwnerMap → TwoHopKey × (TwoHop × ℕ) → Option Arc4
two_hop_arc owners e = willing_arc (owner_at owners e.0.link.addr) e.0.addr e.1.0.metric_out
