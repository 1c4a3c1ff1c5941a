use Rattle.mesh_settled.proofs.GapsLemmas.LinkLemmas.{held_side}
use Rattle.mesh_settled.proofs.gaps.links.held_link.Goals as goal

pub returns : goal.returns
returns g c = rw (c.if_symmetric.ensures, c.link_of.ensures) (held_side (g.R.RouterView.state c.args.router.now) c.args.now c.args.i c.args.key (c.requires.neighbourhood.distinct_links c.args.i))
