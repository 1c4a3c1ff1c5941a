use Rattle.mesh_report.proofs.Common.{ℕ, ◌<◌, get_or, refl, ap, ◌∙◌, arith, w8, SwzOk-from_below, Each1-from_get_or, length-swz_l, get_or-swz_l_below}
use Rattle.mesh_report.specs.declared.lanes.TheConstants.{LOWER}
use Rattle.mesh_report.proofs.lanes.digits.Goals as goal

pub swizzle : goal.swizzle
swizzle c = SwzOk-from_below w8 16 1 16 0 c.args.v refl (omega (arith, c.fits-v.0)) (Each1-from_get_or (λ (j : ℕ). j < 16) c.args.v 0 (λ i lt. c.requires i (omega (arith, lt, c.fits-v.0))))

pub returns : goal.returns
returns c = record {
  len = length-swz_l w8 16 LOWER 0 c.args.v ∙ c.fits-v.0;
  each = λ k lt. get_or-swz_l_below w8 16 LOWER 0 c.args.v k (omega (arith, lt, c.fits-v.0)) (c.requires k lt) ∙ ap (λ (n : ℕ). get_or LOWER n 0) (omega (arith, lt));
}
