use Rattle.mesh_topo.proofs.Common.{drop, map, of_network}
use Rattle.mesh_topo.proofs.AdvertisedLemmas.Offering.{Leaves}
use Rattle.mesh_topo.proofs.advertised.rows.put_networks.Given as goal

abbrev pub invariant-loop-i : goal.invariant-loop-i
invariant-loop-i l = Leaves l.offers (map of_network (drop l.i l.attached)) l.fn.offers (map of_network l.attached)
