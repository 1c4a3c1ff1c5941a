use Rattle.mesh_replay.proofs.Common.{◌<◌, length, arith}
use Rattle.mesh_replay.proofs.CheckingLemmas.Telling.{tells_more, tells_nowhere, tells_stop, tells_to}
use Rattle.mesh_replay.proofs.FramesLemmas.Items.{each_done, each_more}
use Rattle.mesh_replay.proofs.checking.frames.tell_further.Goals as goal

pub loop-iface-init : goal.loop-iface-init
loop-iface-init c = tells_nowhere c.requires.progress

pub loop-iface-preserved : goal.loop-iface-preserved
loop-iface-preserved c =
    let lt : c.loop-iface.iface < length c.args.event.now.settings.now.interfaces = (let a = c.loop-iface-test.true in let b = c.len-iface-end.ensures in omega (arith, a, b)) in
    tells_more c.loop-iface.invariant (λ s. each_more (length c.args.event.now.settings.now.interfaces) c.loop-iface.iface c.args.frame.now.value lt) c.in_ok-tell_frame.ensures c.if-not-branch.false

pub returns-then-not-branch : goal.returns-then-not-branch
returns-then-not-branch c =
    let lt : c.loop-iface.iface < length c.args.event.now.settings.now.interfaces = (let a = c.loop-iface-test.true in let b = c.len-iface-end.ensures in omega (arith, a, b)) in
    tells_stop c.loop-iface.invariant (λ s. each_more (length c.args.event.now.settings.now.interfaces) c.loop-iface.iface c.args.frame.now.value lt) c.in_ok-tell_frame.ensures c.if-not-branch.true

pub returns : goal.returns
returns c = tells_to c.loop-iface.invariant
    (λ s. each_done (length c.args.event.now.settings.now.interfaces) c.loop-iface.iface c.args.frame.now.value (let a = c.loop-iface-test.false in let b = c.len-iface-end.ensures in omega (arith, a, b)))
