use Rattle.mesh_nbrs.proofs.ByAddress.{parts_more}
use Rattle.mesh_nbrs.proofs.parts.add_note.Goals as goal

pub returns : goal.returns
returns c = λ notes are.
    parts_more notes c.args.note.now c.args.parts.now.entries c.insert.new.self.entries c.with_note-part.result are c.in_ok-insert.ensures.updates.0
    (c.with_note-part.ensures notes (rw (c.get.ensures.value) (are c.args.note.now.key.addr)))
