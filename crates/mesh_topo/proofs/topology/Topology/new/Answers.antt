use Rattle.mesh_topo.proofs.Soundness.{none_sound}
use Rattle.mesh_topo.proofs.topology.Topology.new.Goals as goal

pub returns : goal.returns
returns g c = record {
  advertisers = c.in_ok-new.ensures;
  routers = c.in_ok-new-2.ensures;
  addresses = c.in_ok-new-3.ensures;
  networks = c.in_ok-new-4.ensures;
  sound = none_sound _ c.in_ok-new.ensures c.in_ok-new-2.ensures c.in_ok-new-3.ensures c.in_ok-new-4.ensures;
}
