use Rattle.mesh_routes.proofs.SameBases.{bases_give_same}
use Rattle.mesh_routes.proofs.StayingLaw.{routes_stay, graphs_stay}
use Rattle.mesh_routes.proofs.laws.routes_and_graphs_stay.Goals as goal

pub returns-clause-routes : goal.returns-clause-routes
returns-clause-routes c = routes_stay

pub returns-clause-graphs : goal.returns-clause-graphs
returns-clause-graphs c = graphs_stay

pub returns-clause-bases : goal.returns-clause-bases
returns-clause-bases c = bases_give_same
