use Rattle.mesh_nhdp.proofs.Common.{◌≡◌, note_of, Gathers, SomeBelow}
use Rattle.mesh_nhdp.proofs.notes.add_notes.Given as goal

abbrev pub invariant-loop-place : goal.invariant-loop-place
invariant-loop-place g l = Gathers l.initial.notes.items l.notes.items (λ note. SomeBelow (g.T.Table.content l.table) l.place (λ e. note ≡ note_of l.now e.0 e.1))
