use Rattle.mesh_nbrs.proofs.Common.{take, AreSummariesOf}
use Rattle.mesh_nbrs.proofs.parts.parts_of.Given as goal

abbrev pub invariant-loop-note : goal.invariant-loop-note
invariant-loop-note l = AreSummariesOf (take l.note-index l.notes) l.parts.entries
