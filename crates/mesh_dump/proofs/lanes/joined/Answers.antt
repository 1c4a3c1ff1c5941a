use Rattle.mesh_dump.proofs.Common.{arith, common_steps, lanes_of, lanes_with}
use Rattle.mesh_dump.proofs.lanes.joined.Goals as goal

pub returns : goal.returns
returns c = grind (arith, common_steps, lanes_with, lanes_of)
