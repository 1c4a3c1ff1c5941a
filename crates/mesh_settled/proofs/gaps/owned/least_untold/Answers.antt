use Rattle.mesh_settled.proofs.GapsLemmas.NeighbourLemmas.{face_step, face_end}
use Rattle.mesh_settled.proofs.gaps.owned.least_untold.Goals as goal

pub loop-i-preserved : goal.loop-i-preserved
loop-i-preserved c =
    rw c.least_of-best.ensures (face_step c.args.settings.now c.args.addrs.now c.addrs_of.result.now c.loop-i.i c.loop-i.best c.least_missing.result c.addrs_of.ensures c.loop-i.invariant c.least_missing.ensures)

pub returns : goal.returns
returns c = face_end c.args.settings.now c.args.addrs.now c.loop-i.i c.loop-i.best (rw c.len-i-end.ensures at c.loop-i-test.false) c.loop-i.invariant
