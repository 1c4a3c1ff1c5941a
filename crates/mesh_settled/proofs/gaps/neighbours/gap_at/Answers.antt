use Rattle.mesh_settled.proofs.Common.{Neighbour, neighbour_fields, given_tuple, seen}
use Rattle.mesh_settled.proofs.GapsLemmas.Sides.{gap_found}
use Rattle.mesh_settled.proofs.gaps.neighbours.gap_at.Goals as goal

pub held_neighbour-held-requires : goal.held_neighbour-held-requires
held_neighbour-held-requires g c = c.requires.network.sound c.args.site.now.x (g.R.RouterView.state c.args.site.now.router.now) c.requires.at

pub returns : goal.returns
returns g c =
    rw (c.found_at.ensures, c.compared-values.ensures) (gap_found (seen g.R.RouterView.state c.args.site.now) (Neighbour c.args.addr) (λ e. e) (λ n. neighbour_fields n.now) (λ n. neighbour_fields (given_tuple n)) c.held_neighbour-held.result c.given_neighbour-given.result
    c.difference_of-difference.result c.is_some.result c.is_some-2.result c.is_some.ensures c.is_some-2.ensures c.held_neighbour-held.ensures c.given_neighbour-given.ensures c.difference_of-difference.ensures)
