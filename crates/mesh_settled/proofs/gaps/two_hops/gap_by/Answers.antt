use Rattle.mesh_settled.proofs.Common.{map}
use Rattle.mesh_settled.proofs.GapsLemmas.TwoHopLemmas.{all_by}
use Rattle.mesh_settled.proofs.gaps.two_hops.gap_by.Goals as goal

pub returns : goal.returns
returns g c =
    rw c.lesser.ensures (all_by c.args.site.now.scenario.now c.args.site.now.graph.now (map g.R.RouterView.state c.args.site.now.routers.now) c.args.site.now.moment c.args.site.now.x (g.R.RouterView.state c.args.site.now.router.now) c.requires.site.network
    c.args.end.now.i c.args.end.now.y c.args.end.now.j (g.R.RouterView.state c.args.end.now.other.now) c.args.end.now.link c.requires.end c.held_by-held.result c.given_by-given.result c.held_by-held.ensures c.given_by-given.ensures)
