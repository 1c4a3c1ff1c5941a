use Rattle.mesh_data.proofs.NetworkTrips.{reaches_networks, never_strays}
use Rattle.mesh_data.proofs.OneTrip.{one_trip}
use Rattle.mesh_data.proofs.RouterTrips.{reaches_routers}
use Rattle.mesh_data.proofs.laws.settled_trips.Goals as goal

pub returns-clause-only : goal.returns-clause-only
returns-clause-only c = one_trip

pub returns-clause-routers : goal.returns-clause-routers
returns-clause-routers c = reaches_routers c.settled_routes.ensures.rows c.settled_routes.ensures.next_hops

pub returns-clause-networks : goal.returns-clause-networks
returns-clause-networks c = reaches_networks c.settled_routes.ensures.rows c.settled_routes.ensures.next_hops

pub returns-clause-never_strays : goal.returns-clause-never_strays
returns-clause-never_strays c = never_strays c.settled_routes.ensures.rows c.settled_routes.ensures.next_hops
