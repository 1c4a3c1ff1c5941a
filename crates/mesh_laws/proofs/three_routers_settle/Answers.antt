use Rattle.mesh_laws.proofs.ThreeRoutersWitness.{three_settle}
use Rattle.mesh_laws.proofs.three_routers_settle.Goals as goal

pub returns : goal.returns
returns c = three_settle
