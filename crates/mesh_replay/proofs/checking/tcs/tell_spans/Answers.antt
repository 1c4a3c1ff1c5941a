use Rattle.mesh_replay.proofs.Common.{common_steps, ap, List, arith, drop_all, slice_get-get_or, PartSpan, span_items}
use Rattle.mesh_replay.proofs.CheckingLemmas.Telling.{tells_more, tells_nowhere, tells_stop, tells_to}
use Rattle.mesh_replay.proofs.FramesLemmas.Items.{spans_more}
use Rattle.mesh_replay.proofs.checking.tcs.tell_spans.Goals as goal

pub loop-span-init : goal.loop-span-init
loop-span-init c = tells_nowhere c.requires.progress

pub tell_span-requires-clause-within : goal.tell_span-requires-clause-within
tell_span-requires-clause-within c = grind (arith, common_steps, slice_get-get_or, c.requires.within)

pub loop-span-preserved : goal.loop-span-preserved
loop-span-preserved c =
    let due = c.args.due.now in
    tells_more c.loop-span.invariant (λ s. spans_more due.complete c.loop-span.number due.rows.now c.args.spans.now c.loop-span.span-index (record { first = 0; len = 0 }) c.loop-span-test.true) c.in_ok-tell_span.ensures c.if-not-branch.false

pub returns-then-not-branch : goal.returns-then-not-branch
returns-then-not-branch c =
    let due = c.args.due.now in
    tells_stop c.loop-span.invariant (λ s. spans_more due.complete c.loop-span.number due.rows.now c.args.spans.now c.loop-span.span-index (record { first = 0; len = 0 }) c.loop-span-test.true) c.in_ok-tell_span.ensures c.if-not-branch.true

pub returns : goal.returns
returns c =
    let due = c.args.due.now in
    tells_to c.loop-span.invariant (λ s. ap (λ (l : List PartSpan). span_items due.complete c.loop-span.number due.rows.now l) (drop_all c.loop-span.span-index c.args.spans.now (let there = c.loop-span-test.false in omega (arith, there))))
