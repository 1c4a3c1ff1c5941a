use Rattle.mesh_routes.proofs.Common.{sym}
use Rattle.mesh_routes.proofs.hops.costs.RoutingPurpose.cost_of.Goals as goal

pub returns-clause-some : goal.returns-clause-some
returns-clause-some c = (c.in_ok-metric.metric, c.in_ok-metric.was, sym c.value.ensures.value)
