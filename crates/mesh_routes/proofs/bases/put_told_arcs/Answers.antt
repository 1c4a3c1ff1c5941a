use Rattle.mesh_routes.proofs.Adding.{told_adds}
use Rattle.mesh_routes.proofs.bases.put_told_arcs.Goals as goal

pub returns-clause-adds : goal.returns-clause-adds
returns-clause-adds g c =
    told_adds (g.R.Table.content c.args.routers.now) (g.D.Table.content c.args.addresses.now) (g.T.Table.content c.args.networks.now) c.args.arcs.now c.put_topology_arcs.new.arcs c.put_topology_arcs-2.new.arcs c.put_topology_arcs-3.new.arcs
    c.in_ok-put_topology_arcs.ensures.adds c.in_ok-put_topology_arcs-2.ensures.adds c.in_ok-put_topology_arcs-3.ensures.adds
