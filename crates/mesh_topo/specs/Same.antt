-- What of a topology stays the same.
use Rattle.mesh_atoms.specs.Base.{router_eq, address_eq, network_eq}
use Rattle.mesh_atoms.specs.State.{TopologyBase}
use Rattle.mesh_topo.specs.TcSets.Same.{SaysSame}
use Rattle.mesh_topo.specs.TcSets.Tuples.{router_says, address_says, network_says}

-- the same routers, addresses and networks are advertised, at the same metrics and distances; numbers and moments may differ
pub record SameAdvertised (old new : TopologyBase) : Type 0 where
  pub routers : SaysSame router_eq router_says old.routers new.routers
  pub addresses : SaysSame address_eq address_says old.addresses new.addresses
  pub networks : SaysSame network_eq network_says old.networks new.networks
