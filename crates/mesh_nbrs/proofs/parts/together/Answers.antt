use Rattle.mesh_nbrs.proofs.Common.{take, subst, List, take_all, Addr4, HasNote, IsNotesSummary}
use Rattle.mesh_nbrs.proofs.ByAddress.{summary_next}
use Rattle.mesh_nbrs.proofs.parts.together.Goals as goal

pub loop-addr-preserved : goal.loop-addr-preserved
loop-addr-preserved c = λ notes are.
    summary_next notes c.args.addrs.now c.loop-addr.addr-index _ c.with_part-summary.result c.loop-addr-test.true
    (c.with_part-summary.ensures notes (take c.loop-addr.addr-index c.args.addrs.now) are (c.loop-addr.invariant notes are))

pub returns : goal.returns
returns c = λ notes are. subst (λ (xs : List Addr4). IsNotesSummary (HasNote notes xs) c.loop-addr.summary) (take_all c.loop-addr.addr-index c.args.addrs.now c.loop-addr-test.false) (c.loop-addr.invariant notes are)
