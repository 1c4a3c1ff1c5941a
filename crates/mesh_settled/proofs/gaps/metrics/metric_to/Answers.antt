use Rattle.mesh_settled.proofs.GapsLemmas.MetricLemmas.{metric_is}
use Rattle.mesh_settled.proofs.gaps.metrics.metric_to.Goals as goal

pub returns : goal.returns
returns g c = metric_is c.args.site.now.scenario.now c.args.site.now.graph.now c.requires c.args.y c.args.z c.cheapest.result (rw c.as_slice.ensures at c.cheapest.ensures)
