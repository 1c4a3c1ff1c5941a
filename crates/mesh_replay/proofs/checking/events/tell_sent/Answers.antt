use Rattle.mesh_replay.proofs.Common.{◌++◌, map, Sent, tc_items, if_ok_weaker}
use Rattle.mesh_replay.proofs.CheckingLemmas.Telling.{tells_append, tells_not_behind, tells_where}
use Rattle.mesh_replay.proofs.checking.events.tell_sent.Goals as goal

pub returns-then-not-branch : goal.returns-then-not-branch
returns-then-not-branch g c =
    tells_not_behind (λ s. tc_items (g.R.RouterOfTrace.state c.args.router.now) c.args.lines.now.sequence c.args.lines.now.parts ++ map Sent c.args.lines.now.out) c.in_ok-tell_hellos.ensures c.if-not-branch.true

pub returns-then-not-branch-2 : goal.returns-then-not-branch-2
returns-then-not-branch-2 g c =
    tells_append c.in_ok-tell_hellos.ensures c.if-not-branch.false (tells_not_behind (λ s. map Sent c.args.lines.now.out) c.in_ok-tell_tcs.ensures c.if-not-branch-2.true)

pub returns : goal.returns
returns g c =
    if_ok_weaker c.tell_outbox.result (λ fits tells. tells_append c.in_ok-tell_hellos.ensures c.if-not-branch.false (tells_append c.in_ok-tell_tcs.ensures c.if-not-branch-2.false (tells_where tells (λ s is same. tt)))) c.tell_outbox.ensures
