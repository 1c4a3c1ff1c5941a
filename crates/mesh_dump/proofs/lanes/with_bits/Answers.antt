use Rattle.mesh_dump.proofs.Common.{bit_or, refl, lanes_with}
use Rattle.mesh_dump.proofs.lanes.with_bits.Goals as goal

pub returns : goal.returns
returns c = lanes_with 32 bit_or c.args.v c.args.bits c.fits-v.0 refl
