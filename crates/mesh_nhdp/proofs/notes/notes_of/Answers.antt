use Rattle.mesh_nhdp.proofs.Common.{◌≡◌, ◌↔◌, length, Contains, subst, arith, LinkKey, Link, Base, LinkNote, IsNoteIn, Gathers, SomeBelow, gathers_more, item_at}
use Rattle.mesh_nhdp.proofs.AllNotes.{tells_links}
use Rattle.mesh_nhdp.proofs.notes.notes_of.Goals as goal

pub loop-set-preserved : goal.loop-set-preserved
loop-set-preserved g c =
    gathers_more c.args.sets.now (λ (base : Base LinkKey Link) (note : LinkNote). IsNoteIn base c.args.now note) c.loop-set.set-index c.set-item.result _ _
    (item_at c.args.sets.now c.loop-set.set-index c.set-item.result (omega arith) c.set-item.is) c.loop-set.invariant
    (subst (λ (b : Base LinkKey Link). Gathers c.loop-set.notes.items c.add_notes.new.notes.items (IsNoteIn b c.args.now)) c.table.ensures.content c.in_ok-add_notes.ensures)

pub returns : goal.returns
returns g c =
    let all : c.loop-set.set-index ≡ length c.args.sets.now = omega arith in
    tells_links c.args.sets.now c.args.now c.loop-set.notes.items (λ note. subst (λ n. Contains c.loop-set.notes.items note ↔ SomeBelow c.args.sets.now n (λ base. IsNoteIn base c.args.now note)) all (c.loop-set.invariant note))
