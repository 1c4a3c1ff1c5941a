use Rattle.mesh_routes.proofs.Existing.{routes_exist}
use Rattle.mesh_routes.proofs.laws.routers_have_routes.Goals as goal

pub returns : goal.returns
returns c = routes_exist
