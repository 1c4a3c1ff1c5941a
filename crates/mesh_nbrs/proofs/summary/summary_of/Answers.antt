use Rattle.mesh_nbrs.proofs.Summaries.{of_symmetric, of_other}
use Rattle.mesh_nbrs.proofs.summary.summary_of.Goals as goal

pub returns-then-note : goal.returns-then-note
returns-then-note c = of_symmetric c.args.note.now c.if-note.true

pub returns-else-note : goal.returns-else-note
returns-else-note c = of_other c.args.note.now c.if-note.false
