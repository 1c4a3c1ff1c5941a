use Rattle.mesh_machine.proofs.Through.{end_together}
use Rattle.mesh_machine.proofs.laws.routers_end_together.Goals as goal

pub returns : goal.returns
returns c = end_together
