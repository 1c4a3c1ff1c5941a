use Rattle.mesh_report.proofs.Common.{bit_and, get_or, refl, ◌∙◌}
use Rattle.std.proofs.lemmas.Nat.{and_mask}
use Rattle.mesh_report.proofs.Vectors.{lanes_with}
use Rattle.mesh_report.proofs.lanes.lows.Goals as goal

pub returns : goal.returns
returns c =
    let is = lanes_with 16 bit_and c.args.v 15 c.fits-v.0 refl in
    record { len = is.len; each = λ k lt. is.each k lt ∙ and_mask (get_or c.args.v k 0) 4 }
