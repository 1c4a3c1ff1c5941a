use Rattle.mesh_laws.proofs.Witness.{two_settle}
use Rattle.mesh_laws.proofs.two_routers_settle.Goals as goal

pub returns : goal.returns
returns c = two_settle
