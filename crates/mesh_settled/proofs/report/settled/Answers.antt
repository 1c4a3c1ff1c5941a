use Rattle.mesh_settled.proofs.Common.{map}
use Rattle.mesh_settled.proofs.KindLemmas.{none_settled, differ}
use Rattle.mesh_settled.proofs.RouteLaw.{rows_are_least, next_hops_lead}
use Rattle.mesh_settled.proofs.report.settled.Goals as goal

pub returns-clause-none : goal.returns-clause-none
returns-clause-none g c = none_settled c.args.scenario.now c.args.graph.now (map g.R.RouterView.state c.args.routers.now) c.args.now c.requires c.first_of.result c.first_of.ensures

pub returns-clause-differ : goal.returns-clause-differ
returns-clause-differ g c = differ c.args.scenario.now c.args.graph.now (map g.R.RouterView.state c.args.routers.now) c.args.now c.requires c.first_of.result c.first_of.ensures

pub returns-clause-rows : goal.returns-clause-rows
returns-clause-rows g c none =
    rows_are_least c.args.scenario.now c.args.graph.now (map g.R.RouterView.state c.args.routers.now) c.args.now c.requires
    ((none_settled c.args.scenario.now c.args.graph.now (map g.R.RouterView.state c.args.routers.now) c.args.now c.requires c.first_of.result c.first_of.ensures).0 none)

pub returns-clause-next_hops : goal.returns-clause-next_hops
returns-clause-next_hops g c none =
    next_hops_lead c.args.scenario.now c.args.graph.now (map g.R.RouterView.state c.args.routers.now) c.args.now c.requires
    ((none_settled c.args.scenario.now c.args.graph.now (map g.R.RouterView.state c.args.routers.now) c.args.now c.requires c.first_of.result c.first_of.ensures).0 none)
