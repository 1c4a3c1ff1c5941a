use Rattle.mesh_topo.proofs.Common.{flat_map, map, of_selector, of_network}
use Rattle.mesh_topo.proofs.AdvertisedLemmas.Advertising.{are_rows, router_rows}
use Rattle.mesh_topo.proofs.AdvertisedLemmas.Offering.{starting}
use Rattle.mesh_topo.proofs.advertised.rows.tc_rows.Goals as goal

pub returns : goal.returns
returns c =
    let selectors = c.args.selectors.now in
    let attached = c.args.attached.now in
    let exact = are_rows selectors attached c.requires c.put_networks.new.offers c.in_ok-rows.rows c.in_ok-rows.ensures.ordered
    (starting c.new-offers.result c.put_selectors.new.offers c.put_networks.new.offers (flat_map of_selector selectors) (map of_network attached) c.new-offers.ensures.empty c.in_ok-put_selectors.ensures c.in_ok-put_networks.ensures)
    c.in_ok-rows.ensures.all in
    record { exact = exact; rows = λ s are attaches. router_rows s selectors attached c.in_ok-rows.rows exact are attaches }
