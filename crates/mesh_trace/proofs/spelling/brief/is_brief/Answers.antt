use Rattle.mesh_trace.proofs.Common.{ℕ, ◌+◌, List, length, map, refl, sym, ap, subst, ◌∙◌, arith, slice_range, IsTrue, ◌↔◌, IfOk-weaker, Block, fields_of_block, fields_of_message, SpellsPair, SpellsItems, SpellsBriefly}
use Rattle.mesh_trace.proofs.SpellingLemmas.Pairs.{tlvs_there, pairs_there, brief_there}
use Rattle.mesh_trace.proofs.spelling.brief.is_brief.Goals as goal

pub behind_tlvs-requires-clause-at : goal.behind_tlvs-requires-clause-at
behind_tlvs-requires-clause-at c =
    let m = fields_of_message c.args.message.now in
    let start = c.args.span.start in
    let t = tlvs_there m c.args.frame.now start (start + c.args.span.len) _ c.requires.spelled c.requires.end (omega arith) refl in
    omega (arith, t.0, c.size_before.ensures)

pub are_brief-requires-clause-spelled : goal.are_brief-requires-clause-spelled
are_brief-requires-clause-spelled c =
    let m = fields_of_message c.args.message.now in
    let start = c.args.span.start in
    let end = start + c.args.span.len in
    let is = c.requires.spelled in
    let t = tlvs_there m c.args.frame.now start end _ is c.requires.end (omega arith) refl in
    let size = c.size_before.ensures in
    let there = ap (λ (n : ℕ). slice_range c.args.frame.now (start + n) end) size ∙ t.1 in
    let place = c.in_ok-at.ensures m.tlvs is.body_is.tlvs is.body_is.blocks is.body_is.tlvs_is there ∙ ap (λ (n : ℕ). start + n + length is.body_is.tlvs) size in
    subst (λ (bs : List Block). SpellsItems (SpellsPair m.width) (map fields_of_block bs) (slice_range c.args.frame.now c.in_ok-at.at end)) (sym c.as_slice.ensures)
    (pairs_there m c.args.frame.now start end _ is c.requires.end (omega arith) refl c.in_ok-at.at place)

pub returns : goal.returns
returns c =
    let m = fields_of_message c.args.message.now in
    let start = c.args.span.start in
    let end = start + c.args.span.len in
    let size = c.size_before.ensures in
    IfOk-weaker c.are_brief.result _ _ (λ yes iff text is e.
    let t = tlvs_there m c.args.frame.now start end text is c.requires.end (omega arith) e in
    let there = ap (λ (n : ℕ). slice_range c.args.frame.now (start + n) end) size ∙ t.1 in
    let place = c.in_ok-at.ensures m.tlvs is.body_is.tlvs is.body_is.blocks is.body_is.tlvs_is there ∙ ap (λ (n : ℕ). start + n + length is.body_is.tlvs) size in
    let brief = brief_there m c.args.frame.now start end text is c.requires.end (omega arith) e c.in_ok-at.at place in
    let here : IsTrue yes ↔ SpellsItems (SpellsBriefly m.width) m.blocks (slice_range c.args.frame.now c.in_ok-at.at end) =
    subst (λ (bs : List Block). IsTrue yes ↔ SpellsItems (SpellsBriefly m.width) (map fields_of_block bs) (slice_range c.args.frame.now c.in_ok-at.at end)) c.as_slice.ensures iff in
    (λ y. brief.0 (here.0 y), λ h. here.1 (brief.1 h))) c.are_brief.ensures
