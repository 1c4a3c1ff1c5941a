use Rattle.mesh_nhdp.proofs.Common.{◌≡◌, ◌↔◌, length, Contains, subst, arith, LinkKey, Link, Base, LinkNote, IsNoteAmong, Gathers, SomeBelow, gathers_more, item_at}
use Rattle.mesh_nhdp.proofs.AllNotes.{tells_links_of}
use Rattle.mesh_nhdp.proofs.notes.notes_among.Goals as goal

pub loop-set-preserved : goal.loop-set-preserved
loop-set-preserved g c =
    gathers_more c.args.sets.now (λ (base : Base LinkKey Link) (note : LinkNote). IsNoteAmong base c.args.addrs.now c.args.now note) c.loop-set.set-index c.set-item.result _ _
    (item_at c.args.sets.now c.loop-set.set-index c.set-item.result (omega arith) c.set-item.is) c.loop-set.invariant
    (subst (λ (b : Base LinkKey Link). Gathers c.loop-set.notes.items c.add_notes_among.new.notes.items (IsNoteAmong b c.args.addrs.now c.args.now)) c.table.ensures.content c.in_ok-add_notes_among.ensures)

pub returns : goal.returns
returns g c =
    let all : c.loop-set.set-index ≡ length c.args.sets.now = omega arith in
    tells_links_of c.args.sets.now c.args.now c.loop-set.notes.items c.args.addrs.now (λ note. subst (λ n. Contains c.loop-set.notes.items note ↔ SomeBelow c.args.sets.now n (λ base. IsNoteAmong base c.args.addrs.now c.args.now note)) all (c.loop-set.invariant note))
