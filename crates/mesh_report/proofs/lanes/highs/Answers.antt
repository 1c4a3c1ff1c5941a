use Rattle.mesh_report.proofs.Common.{ℕ, ◌/◌, ◌^◌, refl}
use Rattle.mesh_report.proofs.Vectors.{lanes_with}
use Rattle.mesh_report.proofs.lanes.highs.Goals as goal

pub returns : goal.returns
returns c = lanes_with 16 (λ (a b : ℕ). a / 2 ^ b) c.args.v 4 c.fits-v.0 refl
