use Rattle.mesh_dump.proofs.Common.{◌*◌, ◌++◌, refl, ◌∙◌, arith, get_or_append_left, picked}
use Rattle.mesh_dump.proofs.Wide.{evens, even_place}
use Rattle.mesh_dump.proofs.lanes.firsts.Goals as goal

pub returns : goal.returns
returns c = record {
  len = refl;
  each = λ k lt. picked (c.args.v ++ c.args.v) evens k (2 * k) (omega (arith, lt)) (even_place k lt) ∙ get_or_append_left c.args.v c.args.v 0 (2 * k) (omega (arith, lt, c.fits-v.0));
}
