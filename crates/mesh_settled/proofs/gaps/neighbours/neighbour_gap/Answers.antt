use Rattle.mesh_settled.proofs.GapsLemmas.NeighbourLemmas.{all_neighbours}
use Rattle.mesh_settled.proofs.gaps.neighbours.neighbour_gap.Goals as goal

pub returns : goal.returns
returns g c =
    let site = c.args.site.now in
    rw c.lesser.ensures (all_neighbours g.R.RouterView.state site.routers.now site.scenario.now site.moment site.x (g.R.RouterView.state site.router.now) c.held_gap.result c.given_gap.result c.held_gap.ensures c.given_gap.ensures)
