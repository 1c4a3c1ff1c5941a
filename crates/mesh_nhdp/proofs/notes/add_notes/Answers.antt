use Rattle.mesh_nhdp.proofs.Common.{◌≡◌, ℕ, length, sym, ◌∙◌, subst, arith, LinkKey, Link, Base, link_equiv, same_link, LinkNote, note_of, SomeBelow, adds_more, adds_one, adds_so, found_below, below_found, none_within}
use Rattle.mesh_nhdp.proofs.notes.add_notes.Goals as goal

pub returns-in-None : goal.returns-in-None
returns-in-None g c = none_within (g.T.Table.content c.args.table.now) c.loop-place.place (omega arith) c.in-None.ensures

pub loop-place-preserved : goal.loop-place-preserved
loop-place-preserved g c =
    let is : c.note_of.result ≡ note_of c.args.now c.in-Some.key.now (c.in-Some.link.now, c.in-Some.until) = c.note_of.ensures in
    adds_more (g.T.Table.content c.args.table.now) (λ (e : LinkKey × (Link × ℕ)) (note : LinkNote). note ≡ note_of c.args.now e.0 e.1) c.loop-place.place (c.in-Some.key.now, (c.in-Some.link.now, c.in-Some.until))
    c.args.notes.now.items c.loop-place.notes.items _ (sym c.in-Some.ensures) c.loop-place.invariant
    (adds_one c.loop-place.notes.items _ (λ (note : LinkNote). note ≡ note_of c.args.now c.in-Some.key.now (c.in-Some.link.now, c.in-Some.until)) c.note_of.result c.in_ok-push-in-Some.ensures.items is (λ a same. is ∙ sym same))

pub returns : goal.returns
returns g c =
    let base : Base LinkKey Link = g.T.Table.content c.args.table.now in
    let all : c.loop-place.place ≡ length base = omega arith in
    adds_so c.args.notes.now.items c.loop-place.notes.items _ _ (λ note. (
      λ s. let (key, e, is, same) = found_below link_equiv same_link base (λ e. note ≡ note_of c.args.now e.0 e.1) c.len-place-end.ensures.distinct
          (subst (λ n. SomeBelow base n (λ e. note ≡ note_of c.args.now e.0 e.1)) all s) in (key, e, is, same),
      λ h. let (key, e, is, same) = h in
          subst (λ n. SomeBelow base n (λ e. note ≡ note_of c.args.now e.0 e.1)) (sym all) (below_found link_equiv same_link base (λ e. note ≡ note_of c.args.now e.0 e.1) key e is same),
    )) c.loop-place.invariant
