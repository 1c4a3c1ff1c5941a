use Rattle.mesh_topo.proofs.Common.{false, drop, map, of_address}
use Rattle.mesh_topo.proofs.AdvertisedLemmas.Offering.{Leaves}
use Rattle.mesh_topo.proofs.advertised.rows.put_addresses.Given as goal

abbrev pub invariant-loop-i : goal.invariant-loop-i
invariant-loop-i l = Leaves l.offers (map (of_address false l.metric) (drop l.i l.addrs)) l.fn.offers (map (of_address false l.metric) l.addrs)
