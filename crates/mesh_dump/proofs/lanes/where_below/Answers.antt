use Rattle.mesh_dump.proofs.Common.{ltb, refl, lanes_chosen}
use Rattle.mesh_dump.proofs.lanes.where_below.Goals as goal

pub returns : goal.returns
returns c = lanes_chosen 32 ltb c.args.v c.args.bound c.args.low c.args.high c.fits-v.0 c.fits-low.0 c.fits-high.0 refl
