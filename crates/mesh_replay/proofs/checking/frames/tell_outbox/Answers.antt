use Rattle.mesh_replay.proofs.Common.{common_steps, arith, ap, map, drop_all, Sent, none_past}
use Rattle.mesh_replay.proofs.CheckingLemmas.Telling.{tells_more, tells_nowhere, tells_stop, tells_to}
use Rattle.mesh_replay.proofs.FramesLemmas.Items.{frames_from}
use Rattle.mesh_replay.proofs.checking.frames.tell_outbox.Goals as goal

pub loop-i-init : goal.loop-i-init
loop-i-init c = tells_nowhere c.requires.progress

pub loop-i-preserved : goal.loop-i-preserved
loop-i-preserved c =
    tells_more c.loop-i.invariant (λ s. frames_from c.args.out.now c.loop-i.i (record { iface = c.in-Some.iface; bytes = c.in-Some.octets.now }) c.in-Some.ensures) c.in_ok-tell_forwarded.ensures c.if-not-branch.false

pub returns-then-not-branch : goal.returns-then-not-branch
returns-then-not-branch c =
    tells_stop c.loop-i.invariant (λ s. frames_from c.args.out.now c.loop-i.i (record { iface = c.in-Some.iface; bytes = c.in-Some.octets.now }) c.in-Some.ensures) c.in_ok-tell_forwarded.ensures c.if-not-branch.true

pub returns-after-loop-i : goal.returns-after-loop-i
returns-after-loop-i c = tells_to c.loop-i.invariant (λ s. ap (map Sent) (drop_all c.loop-i.i c.args.out.now (let whole = c.len-i-end.ensures in let done = c.loop-i-test.false in omega (arith, whole, done))))

pub returns-in_default : goal.returns-in_default
returns-in_default c = grind (arith, common_steps, tells_to, drop_all, none_past, c.loop-i.invariant)
