use Rattle.mesh_nbrs.proofs.Common.{take, sym, subst, List, take_all, LinkNote, AreSummariesOf}
use Rattle.mesh_nbrs.proofs.ByAddress.{one_more}
use Rattle.mesh_nbrs.proofs.parts.parts_of.Goals as goal

pub loop-note-preserved : goal.loop-note-preserved
loop-note-preserved c =
    subst (λ (xs : List LinkNote). AreSummariesOf xs c.add_note.new.parts.entries) (sym (one_more c.args.notes.now c.loop-note.note-index c.note-item.result c.loop-note-test.true c.note-item.is))
    (c.in_ok-add_note.ensures (take c.loop-note.note-index c.args.notes.now) c.loop-note.invariant)

pub returns : goal.returns
returns c = subst (λ (xs : List LinkNote). AreSummariesOf xs c.loop-note.parts.entries) (take_all c.loop-note.note-index c.args.notes.now c.loop-note-test.false) c.loop-note.invariant
