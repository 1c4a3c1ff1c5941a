use Rattle.mesh_emulate.proofs.ToldRoutes.{runs_machines, tells_settled, prints_least_routes, prints_next_hops, trips_are_only, trips_reach_routers, trips_reach_networks, trips_never_stray}
use Rattle.mesh_emulate.proofs.ToldProbes.{probes_reach_joined, probes_tell_all, probes_send_once}
use Rattle.mesh_emulate.proofs.laws.emulations_tell.Goals as goal

pub returns-clause-machines : goal.returns-clause-machines
returns-clause-machines c = runs_machines

pub returns-clause-settled : goal.returns-clause-settled
returns-clause-settled c = tells_settled

pub returns-clause-routes : goal.returns-clause-routes
returns-clause-routes c = prints_least_routes

pub returns-clause-next_hops : goal.returns-clause-next_hops
returns-clause-next_hops c = prints_next_hops

pub returns-clause-trips : goal.returns-clause-trips
returns-clause-trips c = trips_are_only c.settled_trips.ensures.only

pub returns-clause-trips_reach_routers : goal.returns-clause-trips_reach_routers
returns-clause-trips_reach_routers c = trips_reach_routers c.settled_trips.ensures.routers

pub returns-clause-trips_reach_networks : goal.returns-clause-trips_reach_networks
returns-clause-trips_reach_networks c = trips_reach_networks c.settled_trips.ensures.networks

pub returns-clause-trips_never_stray : goal.returns-clause-trips_never_stray
returns-clause-trips_never_stray c = trips_never_stray c.settled_trips.ensures.never_strays

pub returns-clause-probes_reach : goal.returns-clause-probes_reach
returns-clause-probes_reach c = probes_reach_joined c.probes_reach.ensures.reaches

pub returns-clause-probes_tell : goal.returns-clause-probes_tell
returns-clause-probes_tell c = probes_tell_all c.probes_reach.ensures.reaches

pub returns-clause-probes_once : goal.returns-clause-probes_once
returns-clause-probes_once c = probes_send_once c.probes_reach.ensures.once
