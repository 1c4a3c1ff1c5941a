-- A router's own graph, and the routes over it.
use Rattle.std.specs.Prelude.{◌≡◌, ℕ, ◌≤◌, ◌<◌, ◌⊎◌, ◌≢◌, Contains, Some}
use Rattle.std.specs.List.{AllPairs}
use Rattle.mesh_atoms.specs.declared.addr.Addr4.{Addr4}
use Rattle.mesh_atoms.specs.declared.addr.NetAddr.{NetAddr}
use Rattle.mesh_atoms.specs.declared.codes.metric.Metric.{Metric}
use Rattle.mesh_atoms.specs.declared.tuples.LinkKey.{LinkKey}
use Rattle.mesh_atoms.specs.declared.tuples.Link.{Link}
use Rattle.mesh_atoms.specs.declared.tuples.TwoHop.{TwoHop}
use Rattle.mesh_atoms.specs.declared.tuples.Neighbour.{Neighbour}
use Rattle.mesh_atoms.specs.declared.tuples.RouterTuple.{RouterTuple}
use Rattle.mesh_atoms.specs.declared.tuples.AddressTuple.{AddressTuple}
use Rattle.mesh_atoms.specs.declared.tuples.NetworkTuple.{NetworkTuple}
use Rattle.mesh_atoms.specs.declared.settings.Attached4.{Attached4}
use Rattle.mesh_atoms.specs.declared.graphs.Route.{Route}
use Rattle.mesh_atoms.specs.Base.{Has, host}
use Rattle.mesh_atoms.specs.Codes.Codes.{metric_value}
use Rattle.mesh_atoms.specs.Nodes.{IsBefore, IsAtMost}
use Rattle.mesh_atoms.specs.declared.tuples.LinkState.TheVariants.{Symmetric as Is_symmetric}
use Rattle.mesh_atoms.specs.State.{State, state_of, HasLink, HasTwoHop, HasSymmetricWith, HasAddress, IsOriginator}
use Rattle.mesh_atoms.specs.Walk.{Walk, Least, Fits, FirstNode}

-- the arcs of a router's own graph (RFC 7181, section 19.1): from itself to its symmetric neighbours' addresses; from a neighbour
-- that is willing to route to its 2-hop addresses; and as the topology tuples say
pub data RouteArc (s : State) : NetAddr → NetAddr → ℕ → Type 0 where
  To_neighbour : {self a : Addr4} {m : Metric} (o : Addr4) (n : Neighbour) →
      IsOriginator s.settings self → HasSymmetricWith s a o n → n.metric_out ≡ Some m → RouteArc s (host self) (host a) (metric_value m)
  To_two_hop : {o a : Addr4} {m : Metric} (i : ℕ) (link : LinkKey) (t : TwoHop) (n : Neighbour) →
      HasTwoHop s i (record { link = link; addr = a }) t → HasSymmetricWith s link.addr o n → n.willing.routing ≢ 0 → t.metric_out ≡ Some m →
      RouteArc s (host o) (host a) (metric_value m)
  By_router : {from to : Addr4} (t : RouterTuple) →
      Has s.bases.topology.routers (record { from = from; to = to }) t → RouteArc s (host from) (host to) (metric_value t.metric)
  By_address : {from a : Addr4} (t : AddressTuple) →
      Has s.bases.topology.addresses (record { from = from; addr = a }) t → RouteArc s (host from) (host a) (metric_value t.metric)
  By_network : {from : Addr4} {net : NetAddr} (t : NetworkTuple) →
      Has s.bases.topology.networks (record { from = from; net = net }) t → RouteArc s (host from) net (metric_value t.metric)

-- neither an own address nor an own attached network
pub record IsOutside (s : State) (node : NetAddr) : Type 0 where
  pub no_address : (a : Addr4) → HasAddress s.settings a → node ≢ host a
  pub no_network : (att : Attached4) → Contains s.settings.attached att → att.net ≢ node

-- the parent of a node is the least node from which an arc ends a least walk to it
pub record IsParent (s : State) (self p node : NetAddr) : Type 0 where
  pub fits : Fits (RouteArc s) self p node
  pub least : (q : NetAddr) → Fits (RouteArc s) self q node → IsAtMost p q

-- a SYMMETRIC link of the neighbour on interface i, with that known metric to it
pub record IsWayTo (s : State) (now : ℕ) (n : Neighbour) (i : ℕ) (key : LinkKey) (m : Metric) : Type 0 where
  pub link : Link
  pub stands : HasLink s i key link
  pub state : state_of link now ≡ Is_symmetric
  pub of_it : Contains n.addrs key.addr
  pub out : link.link_out ≡ Some m

-- the row's next hop: parents lead back from the destination to a first node after the router itself, an address of a neighbour;
-- of that neighbour's ways it is the one with the least metric, among several the first interface's, then the least key's
pub record IsNextHop (s : State) (now : ℕ) (self : NetAddr) (row : Route) : Type 0 where
  pub first : Addr4
  pub on_the_way : FirstNode (IsParent s self) self row.dest (host first)
  pub originator : Addr4
  pub neighbour : Neighbour
  pub owner : HasSymmetricWith s first originator neighbour
  pub metric : Metric
  pub way : IsWayTo s now neighbour row.iface (record { addr = row.next }) metric
  pub best : (i : ℕ) (key : LinkKey) (m : Metric) → IsWayTo s now neighbour i key m →
      (metric_value metric < metric_value m)
      ⊎ ((metric_value metric ≡ metric_value m) × ((row.iface < i) ⊎ ((row.iface ≡ i) × (row.next.0 ≤ key.addr.0))))

-- the routes of the router with that originator at now (RFC 7181, section 19.2): one row for each node outside that a walk
-- reaches, at the least cost, in ascending order of destination
pub record AreRoutes (s : State) (now : ℕ) (self : Addr4) : Type 0 where
  pub is_self : IsOriginator s.settings self
  pub reached : (node : NetAddr) (c : ℕ) → Walk (RouteArc s) (host self) node c → IsOutside s node →
      (row : Route) × Contains s.routes row × (row.dest ≡ node)
  pub outside : (row : Route) → Contains s.routes row → IsOutside s row.dest
  pub least : (row : Route) → Contains s.routes row → Least (RouteArc s) (host self) row.dest row.metric
  pub parent : (row : Route) → Contains s.routes row → IsParent s (host self) row.parent row.dest
  pub next_hop : (row : Route) → Contains s.routes row → IsNextHop s now (host self) row
  pub ordered : AllPairs (λ r t. IsBefore r.dest t.dest) s.routes
