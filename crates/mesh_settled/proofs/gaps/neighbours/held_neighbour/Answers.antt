use Rattle.mesh_settled.proofs.GapsLemmas.NeighbourLemmas.{held_side}
use Rattle.mesh_settled.proofs.gaps.neighbours.held_neighbour.Goals as goal

pub returns : goal.returns
returns g c = rw (c.if_symmetric.ensures, c.neighbour_of.ensures) (held_side (g.R.RouterView.state c.args.router.now) c.args.originator c.requires.neighbourhood.distinct_neighbours)
