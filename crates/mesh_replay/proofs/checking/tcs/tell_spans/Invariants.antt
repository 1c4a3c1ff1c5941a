use Rattle.mesh_replay.proofs.Common.{drop, true, TellsItems, span_items, HasAnsn}
use Rattle.mesh_replay.proofs.checking.tcs.tell_spans.Given as goal

abbrev pub invariant-loop-span : goal.invariant-loop-span
invariant-loop-span l = TellsItems l.case l.fn.progress l.progress l.event (HasAnsn l.due.ansn) (λ s. span_items l.due.complete l.fn.sequence l.due.rows.now l.spans)
    (λ s. span_items l.due.complete l.number l.due.rows.now (drop l.span-index l.spans)) true
