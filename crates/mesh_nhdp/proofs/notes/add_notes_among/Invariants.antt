use Rattle.mesh_nhdp.proofs.Common.{◌≡◌, ℕ, Some, Link, find, link_eq, key_at, note_of, Gathers, SomeBelow}
use Rattle.mesh_nhdp.proofs.notes.add_notes_among.Given as goal

abbrev pub invariant-loop-addr : goal.invariant-loop-addr
invariant-loop-addr g l =
    Gathers l.initial.notes.items l.notes.items (λ note. SomeBelow l.addrs l.addr-index (λ a. (e : Link × ℕ) × (find link_eq (g.T.Table.content l.table) (key_at a) ≡ Some e) × (note ≡ note_of l.now (key_at a) e)))
