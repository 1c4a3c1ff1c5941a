use Rattle.mesh_emulate.proofs.MakingLemmas.Greatest.{metrics_more}
use Rattle.mesh_emulate.proofs.making.routes.greatest_of.Goals as goal

pub loop-router-preserved : goal.loop-router-preserved
loop-router-preserved g c =
    rw (metrics_more g.R.RouterView.state c.args.routers.now c.loop-router.router-index c.router-item.result c.loop-router-test.true c.router-item.is, ← c.routes.ensures.rows)
    (c.greatest_with-greatest.ensures _ c.loop-router.invariant)
