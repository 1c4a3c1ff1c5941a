use Rattle.mesh_dump.proofs.Common.{length-chunk, get_or-chunk}
use Rattle.mesh_dump.proofs.lanes.load.Goals as goal

pub returns : goal.returns
returns c = record { len = length-chunk c.args.at 32 c.args.text.now c.requires; each = λ k lt. get_or-chunk c.args.at 32 c.args.text.now k 0 lt }
