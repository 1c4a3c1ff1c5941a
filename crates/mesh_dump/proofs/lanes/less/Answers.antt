use Rattle.mesh_dump.proofs.Common.{ℕ, ◌+◌, ◌-◌, ◌%◌, refl, lanes_with}
use Rattle.mesh_dump.proofs.lanes.less.Goals as goal

pub returns : goal.returns
returns c = lanes_with 32 (λ (a b : ℕ). (a + (256 - b)) % 256) c.args.v c.args.number c.fits-v.0 refl
