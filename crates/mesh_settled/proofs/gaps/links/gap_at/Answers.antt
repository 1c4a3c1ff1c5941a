use Rattle.mesh_settled.proofs.Common.{Link, link_fields, given_link, seen}
use Rattle.mesh_settled.proofs.GapsLemmas.Sides.{gap_found}
use Rattle.mesh_settled.proofs.gaps.links.gap_at.Goals as goal

pub held_link-held-requires : goal.held_link-held-requires
held_link-held-requires g c = c.requires.network.sound c.args.site.now.x (g.R.RouterView.state c.args.site.now.router.now) c.requires.at

pub returns : goal.returns
returns g c =
    rw (c.found_at.ensures, c.compared-values.ensures) (gap_found (seen g.R.RouterView.state c.args.site.now) (Link c.args.i c.args.key) (λ e. e) (λ link. link_fields link.now) given_link c.held_link-held.result c.given_link-given.result
    c.difference_of-difference.result c.is_some.result c.is_some-2.result c.is_some.ensures c.is_some-2.ensures c.held_link-held.ensures c.given_link-given.ensures c.difference_of-difference.ensures)
