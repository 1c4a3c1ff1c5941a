use Rattle.mesh_routes.proofs.HopsLemmas.LeastCosts.{costs_best}
use Rattle.mesh_routes.proofs.hops.costs.FloodingPurpose.cost_of.Goals as goal
use Rattle.mesh_nbrs.proofs.Owning.{if_none_holds}

pub returns-clause-some : goal.returns-clause-some
returns-clause-some c = costs_best c.args.self.now.ways.keys c.args.originator c.in_ok-way.way c.in_ok-way.ensures.best

pub returns-in_err-way-clause-none : goal.returns-in_err-way-clause-none
returns-in_err-way-clause-none c = if_none_holds c.from_residual.result (λ d w. c.in_err-way.ensures.none w.0 w.1 w.2)
