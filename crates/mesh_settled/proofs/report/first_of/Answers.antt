use Rattle.mesh_settled.proofs.Common.{map}
use Rattle.mesh_settled.proofs.KindLemmas.{next_router, this_router, no_router}
use Rattle.mesh_settled.proofs.report.first_of.Goals as goal

pub returns-then-is_some : goal.returns-then-is_some
returns-then-is_some g c = this_router c.args.scenario.now (map g.R.RouterView.state c.args.routers.now) c.args.now c.loop-x.x c.gap_at-gap.result c.if-is_some.ensures c.gap_at-gap.ensures c.loop-x.invariant

pub loop-x-preserved : goal.loop-x-preserved
loop-x-preserved g c = next_router c.args.scenario.now (map g.R.RouterView.state c.args.routers.now) c.args.now c.loop-x.x c.gap_at-gap.result c.if-is_some.ensures c.gap_at-gap.ensures c.loop-x.invariant

pub returns : goal.returns
returns g c = no_router g.R.RouterView.state c.args.routers.now c.args.scenario.now c.args.now c.loop-x.x c.loop-x-test.false c.loop-x.invariant
