use Rattle.mesh_machine.proofs.Through.{are_machines}
use Rattle.mesh_machine.proofs.laws.machines.Goals as goal

pub returns : goal.returns
returns c = are_machines
