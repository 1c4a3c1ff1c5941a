use Rattle.mesh_report.proofs.Common.{length-chunk, get_or-chunk}
use Rattle.mesh_report.proofs.lanes.load.Goals as goal

pub returns : goal.returns
returns c = record { len = length-chunk c.args.at 16 c.args.octets.now c.requires; each = λ k lt. get_or-chunk c.args.at 16 c.args.octets.now k 0 lt }
