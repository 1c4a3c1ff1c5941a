use Rattle.mesh_data.proofs.Common.{map, IsOnly, ReachesRouter, ReachesNetwork, NeverStrays}
use Rattle.mesh_data.proofs.Hopping.{of_made}
use Rattle.mesh_data.proofs.sending.send.Goals as goal

pub returns-clause-only : goal.returns-clause-only
returns-clause-only g c =
    of_made IsOnly c.settled_trips.ensures.only c.args.scenario.now (map g.R.RouterView.state c.args.routers.now) c.args.from c.args.dest c.trip_of.result c.trip_of.ensures

pub returns-clause-reaches_router : goal.returns-clause-reaches_router
returns-clause-reaches_router g c =
    of_made ReachesRouter c.settled_trips.ensures.routers c.args.scenario.now (map g.R.RouterView.state c.args.routers.now) c.args.from c.args.dest c.trip_of.result c.trip_of.ensures

pub returns-clause-reaches_network : goal.returns-clause-reaches_network
returns-clause-reaches_network g c =
    of_made ReachesNetwork c.settled_trips.ensures.networks c.args.scenario.now (map g.R.RouterView.state c.args.routers.now) c.args.from c.args.dest c.trip_of.result c.trip_of.ensures

pub returns-clause-never_strays : goal.returns-clause-never_strays
returns-clause-never_strays g c =
    of_made NeverStrays c.settled_trips.ensures.never_strays c.args.scenario.now (map g.R.RouterView.state c.args.routers.now) c.args.from c.args.dest c.trip_of.result c.trip_of.ensures
