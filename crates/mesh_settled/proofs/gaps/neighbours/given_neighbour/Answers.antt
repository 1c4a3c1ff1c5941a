use Rattle.mesh_settled.proofs.Common.{states, seen}
use Rattle.mesh_settled.proofs.GapsLemmas.NeighbourLemmas.{some_given, none_given, never_given}
use Rattle.mesh_settled.proofs.gaps.neighbours.given_neighbour.Goals as goal

pub returns-then-is_some : goal.returns-then-is_some
returns-then-is_some g c =
    let site = c.args.site.now in
    some_given site.scenario.now site.graph.now (states g.R.RouterView.state site) site.moment site.x (g.R.RouterView.state site.router.now) c.requires.network c.requires.at c.args.addr c.loop-y.y c.given_at-given.result c.if-is_some.ensures c.given_at-given.ensures

pub loop-y-preserved : goal.loop-y-preserved
loop-y-preserved g c = none_given (seen g.R.RouterView.state c.args.site.now) c.args.addr c.loop-y.y c.given_at-given.result c.if-is_some.ensures c.given_at-given.ensures c.loop-y.invariant

pub returns : goal.returns
returns g c =
    let site = c.args.site.now in
    never_given g.R.RouterView.state site.routers.now site.scenario.now site.moment site.x (g.R.RouterView.state site.router.now) c.args.addr c.loop-y.y c.loop-y-test.false c.loop-y.invariant
