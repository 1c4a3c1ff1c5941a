use Rattle.mesh_nbrs.proofs.ByAddress.{part_first, part_further}
use Rattle.mesh_nbrs.proofs.parts.with_note.Goals as goal

pub returns-in-Some : goal.returns-in-Some
returns-in-Some c = λ notes part.
    part_further notes c.args.note.now c.in-Some.part.now c.summary_of-told.result c.joined.result (rw (c.in-Some.is) at part) c.summary_of-told.ensures c.joined.ensures.symmetric c.joined.ensures.metric_in c.joined.ensures.metric_out c.joined.ensures.until

pub returns-in-None : goal.returns-in-None
returns-in-None c = λ notes part. part_first notes c.args.note.now c.summary_of-told.result (rw (c.in-None.is) at part) c.summary_of-told.ensures
