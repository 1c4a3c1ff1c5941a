use Rattle.mesh_settled.proofs.Common.{map}
use Rattle.mesh_settled.proofs.GapsLemmas.TwoHopLemmas.{all_two_hops}
use Rattle.mesh_settled.proofs.gaps.two_hops.two_hop_gap.Goals as goal

pub returns : goal.returns
returns g c =
    all_two_hops c.args.site.now.scenario.now c.args.site.now.graph.now (map g.R.RouterView.state c.args.site.now.routers.now) c.args.site.now.moment c.args.site.now.x (g.R.RouterView.state c.args.site.now.router.now) c.requires.site.network c.requires.site.at c.requires.links
    c.gap_in.result (rw c.as_slice.ensures at c.gap_in.ensures)
