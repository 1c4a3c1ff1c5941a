use Rattle.mesh_nhdp.proofs.Common.{◌↔◌, Contains, LinkNote, IsNoteIn, SomeBelow}
use Rattle.mesh_nhdp.proofs.notes.notes_of.Given as goal

abbrev pub invariant-loop-set : goal.invariant-loop-set
invariant-loop-set g l = (note : LinkNote) → Contains l.notes.items note ↔ SomeBelow l.sets l.set-index (λ base. IsNoteIn base l.now note)
