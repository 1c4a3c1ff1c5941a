use Rattle.mesh_settled.proofs.Common.{map}
use Rattle.mesh_settled.proofs.GapsLemmas.LinkLemmas.{all_links}
use Rattle.mesh_settled.proofs.gaps.links.link_gap.Goals as goal

pub returns : goal.returns
returns g c =
    rw c.lesser.ensures (all_links c.args.site.now.scenario.now c.args.site.now.graph.now (map g.R.RouterView.state c.args.site.now.routers.now) c.args.site.now.moment c.args.site.now.x (g.R.RouterView.state c.args.site.now.router.now) c.requires.network c.requires.at
    c.held_links-held.result c.given_links-given.result c.held_links-held.ensures (rw c.as_slice.ensures at c.given_links-given.ensures))
