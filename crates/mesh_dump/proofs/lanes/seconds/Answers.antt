use Rattle.mesh_dump.proofs.Common.{◌+◌, ◌*◌, ◌++◌, refl, ◌∙◌, arith, get_or_append_left, picked}
use Rattle.mesh_dump.proofs.Wide.{odds, odd_place}
use Rattle.mesh_dump.proofs.lanes.seconds.Goals as goal

pub returns : goal.returns
returns c = record {
  len = refl;
  each = λ k lt. picked (c.args.v ++ c.args.v) odds k (2 * k + 1) (omega (arith, lt)) (odd_place k lt) ∙ get_or_append_left c.args.v c.args.v 0 (2 * k + 1) (omega (arith, lt, c.fits-v.0));
}
