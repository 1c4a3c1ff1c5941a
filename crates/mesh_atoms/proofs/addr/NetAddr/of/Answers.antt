-- A multiple of the network's size has no remainder by it.
use Rattle.mesh_atoms.proofs.Common.{◌/◌, mul-mod_left}
use Rattle.mesh_atoms.proofs.addr.NetAddr.of.Goals as goal

pub invariant_of-result : goal.invariant_of-result
invariant_of-result c = record {
  within = c.requires;
  clear = rw (← c.size_of_network-size.ensures) (mul-mod_left (c.from.result / c.size_of_network-size.result) c.size_of_network-size.result);
}
