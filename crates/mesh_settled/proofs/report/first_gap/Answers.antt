use Rattle.mesh_settled.proofs.Common.{◌⊎◌, IsTopologyKey, IsLinkKey, IsNeighbourKey, seen, IsTwoHopKey}
use Rattle.mesh_settled.proofs.KindLemmas.{first_link, first_rest, none_found}
use Rattle.mesh_settled.proofs.GapsLemmas.Leasts.{least_lesser}
use Rattle.mesh_settled.proofs.report.first_gap.Goals as goal

pub returns-then-is_some : goal.returns-then-is_some
returns-then-is_some g c = first_link (seen g.R.RouterView.state c.args.site.now) c.link_gap-links.result c.if-is_some.ensures c.link_gap-links.ensures

pub two_hop_gap-two_hops-requires-clause-links : goal.two_hop_gap-two_hops-requires-clause-links
two_hop_gap-two_hops-requires-clause-links g c = none_found (seen g.R.RouterView.state c.args.site.now) IsLinkKey c.link_gap-links.result c.if-is_some.ensures c.link_gap-links.ensures

pub returns : goal.returns
returns g c =
    let l = seen g.R.RouterView.state c.args.site.now in
    first_rest l c.lesser.result (none_found l IsLinkKey c.link_gap-links.result c.if-is_some.ensures c.link_gap-links.ensures)
    (rw c.lesser.ensures (least_lesser l IsNeighbourKey (λ k. IsTwoHopKey k ⊎ IsTopologyKey k) c.neighbour_gap-neighbours.result c.lesser-rest.result c.neighbour_gap-neighbours.ensures
    (rw c.lesser-rest.ensures (least_lesser l IsTwoHopKey IsTopologyKey c.two_hop_gap-two_hops.result c.topology_gaps-topology.result c.two_hop_gap-two_hops.ensures c.topology_gaps-topology.ensures))))
