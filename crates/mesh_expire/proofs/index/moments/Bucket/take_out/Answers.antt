use Rattle.mesh_expire.proofs.Common.{common_steps, arith}
use Rattle.mesh_expire.proofs.IndexLemmas.Moments.{times_turned}
use Rattle.mesh_expire.proofs.index.moments.Bucket.take_out.Goals as goal

pub returns-in-Some-place_of-clause-left : goal.returns-in-Some-place_of-clause-left
returns-in-Some-place_of-clause-left g c = grind (arith, common_steps, times_turned, c.in-Some-place_of.ensures.some, c.take_at.ensures)
