use Rattle.mesh_topo.proofs.Common.{drop, flat_map, of_selector}
use Rattle.mesh_topo.proofs.AdvertisedLemmas.Offering.{Leaves}
use Rattle.mesh_topo.proofs.advertised.rows.put_selectors.Given as goal

abbrev pub invariant-loop-i : goal.invariant-loop-i
invariant-loop-i l = Leaves l.offers (flat_map of_selector (drop l.i l.selectors)) l.fn.offers (flat_map of_selector l.selectors)
