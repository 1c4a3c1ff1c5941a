-- Which neighbour an address is of.
use Rattle.std.specs.Prelude.{Option}
use Rattle.std.specs.Ordering.{nat_cmp}
use Rattle.std.specs.declared.cmp.Ordering.{Ordering}
use Rattle.std.specs.BTreeMap as tree
use Rattle.mesh_atoms.specs.declared.addr.Addr4.{Addr4}
use Rattle.mesh_atoms.specs.declared.tuples.Neighbour.{Neighbour}
use Rattle.mesh_routes.specs.declared.hops.owners.SymmetricNeighbour.{SymmetricNeighbour}

-- the order of addresses
abbrev pub addr_cmp : Addr4 → Addr4 → Ordering
addr_cmp a b = nat_cmp a.0 b.0

-- a map from addresses to the neighbours that they are of
abbrev pub OwnerMap : Type 0
OwnerMap = tree.BTreeMap Addr4 SymmetricNeighbour

-- the neighbour that the address is of
abbrev pub owner_at : OwnerMap → Addr4 → Option SymmetricNeighbour
owner_at owners a = tree.get addr_cmp owners a

-- the neighbour as an owner
abbrev pub owner_by : Addr4 → Neighbour → SymmetricNeighbour
owner_by o n = record { originator = o; metric_in = n.metric_in; metric_out = n.metric_out; willing = n.willing }
