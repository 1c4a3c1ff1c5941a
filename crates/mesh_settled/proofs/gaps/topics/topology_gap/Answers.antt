use Rattle.mesh_settled.proofs.GapsLemmas.TopicLemmas.{all_claim}
use Rattle.mesh_settled.proofs.gaps.topics.topology_gap.Goals as goal

pub returns : goal.returns
returns g c =
    let site = c.args.site.now in
    rw c.lesser.ensures (all_claim g.R.RouterView.state site.routers.now site.scenario.now site.graph.now site.moment site.x c.requires.network (g.R.RouterView.state site.router.now) c.args.topic
    c.held_gap.result c.given_gap.result c.held_gap.ensures c.given_gap.ensures)
