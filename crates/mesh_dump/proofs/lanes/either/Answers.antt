use Rattle.mesh_dump.proofs.Common.{bit_or, lanes_of}
use Rattle.mesh_dump.proofs.lanes.either.Goals as goal

pub returns : goal.returns
returns c = lanes_of 32 bit_or c.args.a c.args.b c.fits-a.0 c.fits-b.0
