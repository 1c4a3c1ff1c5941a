use Rattle.mesh_nhdp.proofs.Common.{◌↔◌, Contains, LinkNote, IsNoteAmong, SomeBelow}
use Rattle.mesh_nhdp.proofs.notes.notes_among.Given as goal

abbrev pub invariant-loop-set : goal.invariant-loop-set
invariant-loop-set g l = (note : LinkNote) → Contains l.notes.items note ↔ SomeBelow l.sets l.set-index (λ base. IsNoteAmong base l.addrs l.now note)
