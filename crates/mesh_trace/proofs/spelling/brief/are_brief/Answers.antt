use Rattle.mesh_trace.proofs.Common.{map, sym, subst, ℕ, false≢true, All-contains, fields_of_block}
use Rattle.mesh_packet.specs.Least.{IsEncodableBlock}
use Rattle.mesh_trace.proofs.SpellingLemmas.Mapped.{next_mapped, there_mapped}
use Rattle.mesh_trace.proofs.SpellingLemmas.Pairs.{given, is_nothing, left_more, left_never, pair_there}
use Rattle.mesh_trace.proofs.spelling.brief.are_brief.Goals as goal

pub behind_pair-requires-clause-encodable : goal.behind_pair-requires-clause-encodable
behind_pair-requires-clause-encodable c =
    let block = c.index-blocks-i.result in
    let is = All-contains (IsEncodableBlock c.args.width) (map fields_of_block c.args.blocks.now) (fields_of_block block) c.requires.encodable (there_mapped fields_of_block c.args.blocks.now c.loop-i.i block c.loop-i-test.true c.index-blocks-i.is) in
    subst (λ (w : ℕ). IsEncodableBlock w (fields_of_block block)) (sym is.width_is) is

pub behind_pair-requires-clause-spelled : goal.behind_pair-requires-clause-spelled
behind_pair-requires-clause-spelled c =
    let block = c.index-blocks-i.result in
    let is = All-contains (IsEncodableBlock c.args.width) (map fields_of_block c.args.blocks.now) (fields_of_block block) c.requires.encodable (there_mapped fields_of_block c.args.blocks.now c.loop-i.i block c.loop-i-test.true c.index-blocks-i.is) in
    pair_there c.args.width (map fields_of_block c.args.blocks.now) c.args.frame.now c.args.start c.args.end c.loop-i.at c.loop-i.i c.requires.end (fields_of_block block)
    (next_mapped fields_of_block c.args.blocks.now c.loop-i.i block c.loop-i-test.true c.index-blocks-i.is) is.width_is c.loop-i.invariant

pub returns-in-None : goal.returns-in-None
returns-in-None c =
    let block = c.index-blocks-i.result in
    let is = All-contains (IsEncodableBlock c.args.width) (map fields_of_block c.args.blocks.now) (fields_of_block block) c.requires.encodable (there_mapped fields_of_block c.args.blocks.now c.loop-i.i block c.loop-i-test.true c.index-blocks-i.is) in (
      λ yes. absurd (false≢true yes),
      λ all. absurd (left_never c.args.width (map fields_of_block c.args.blocks.now) c.args.frame.now c.args.start c.args.end c.loop-i.at c.loop-i.i c.requires.end (fields_of_block block)
          (next_mapped fields_of_block c.args.blocks.now c.loop-i.i block c.loop-i-test.true c.index-blocks-i.is) is.width_is c.loop-i.invariant
          (c.in_ok-next.ensures.none (is_nothing c.in_ok-next.field-0 c.in-None.is)) all),
    )

pub loop-i-preserved : goal.loop-i-preserved
loop-i-preserved c =
    let block = c.index-blocks-i.result in
    let is = All-contains (IsEncodableBlock c.args.width) (map fields_of_block c.args.blocks.now) (fields_of_block block) c.requires.encodable (there_mapped fields_of_block c.args.blocks.now c.loop-i.i block c.loop-i-test.true c.index-blocks-i.is) in
    left_more c.args.width (map fields_of_block c.args.blocks.now) c.args.frame.now c.args.start c.args.end c.loop-i.at c.loop-i.i c.requires.end (fields_of_block block)
    (next_mapped fields_of_block c.args.blocks.now c.loop-i.i block c.loop-i-test.true c.index-blocks-i.is) is.width_is c.loop-i.invariant c.in-Some.next
    (given c.in_ok-next.field-0 c.in-Some.next _ c.in-Some.is c.in_ok-next.ensures.some)
