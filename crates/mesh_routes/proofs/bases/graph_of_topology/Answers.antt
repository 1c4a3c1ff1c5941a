use Rattle.mesh_routes.proofs.Common.{◌≤◌, length, ap, arith}
use Rattle.mesh_routes.proofs.Adding.{all_adds, length_own}
use Rattle.mesh_routes.proofs.bases.graph_of_topology.Goals as goal

pub returns-clause-arcs : goal.returns-clause-arcs
returns-clause-arcs g c =
    all_adds (g.N.Near4.near c.args.near.now) c.args.topology.now c.args.count c.args.from c.args.owners.now
    (g.B.Routers.Table.content c.routers.result.now) (g.B.Addresses.Table.content c.addresses.result.now) (g.B.Networks.Table.content c.networks.result.now)
    c.new-arcs.result c.put_own_arcs.new.arcs c.put_all_two_hop_arcs.new.arcs c.put_told_arcs.new.arcs
    c.new-arcs.ensures c.in_ok-put_own_arcs.ensures.arcs c.in_ok-put_all_two_hop_arcs.ensures.adds c.in_ok-put_told_arcs.ensures.adds
    c.routers.ensures c.addresses.ensures c.networks.ensures

pub returns-clause-few : goal.returns-clause-few
returns-clause-few g c =
    let own : length c.put_own_arcs.new.arcs ≤ length c.args.owners.now.entries = length_own c.args.from c.args.owners.now c.new-arcs.result c.put_own_arcs.new.arcs c.new-arcs.ensures c.in_ok-put_own_arcs.ensures.arcs in
    omega (arith, c.in_ok-put_all_two_hop_arcs.ensures.few, c.in_ok-put_told_arcs.ensures.few, ap length c.routers.ensures, ap length c.addresses.ensures, ap length c.networks.ensures)
