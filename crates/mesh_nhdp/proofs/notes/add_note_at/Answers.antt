use Rattle.mesh_nhdp.proofs.Common.{◌≡◌, ℕ, sym, ap, ◌∙◌, refl, Some, LinkKey, Link, Base, find, link_eq, LinkNote, note_of, adds_one, adds_nothing, same_some, none_not}
use Rattle.mesh_nhdp.proofs.notes.add_note_at.Goals as goal

-- the notes of the link with the key
abbrev IsAt : Base LinkKey Link → LinkKey → ℕ → LinkNote → Type 0
IsAt links key now note = (e : Link × ℕ) × (find link_eq links key ≡ Some e) × (note ≡ note_of now key e)

pub returns-in_ok-push : goal.returns-in_ok-push
returns-in_ok-push g c =
    let e : Link × ℕ = (c.in-Some.link.now, c.in-Some.until) in
    adds_one c.args.notes.now.items _ (IsAt (g.T.Table.content c.args.table.now) c.args.key c.args.now) c.note_of.result c.in_ok-push.ensures.items (e, sym c.in-Some.ensures, c.note_of.ensures)
    (λ a h. (let (f, at, same) = h in c.note_of.ensures ∙ sym (same ∙ ap (λ (x : Link × ℕ). note_of c.args.now c.args.key x) (same_some at (sym c.in-Some.ensures)))))

pub returns-in_default : goal.returns-in_default
returns-in_default g c = adds_nothing c.args.notes.now.items c.args.notes.now.items (IsAt (g.T.Table.content c.args.table.now) c.args.key c.args.now) refl (λ a h. none_not (sym c.in_default.ensures) h.1)
