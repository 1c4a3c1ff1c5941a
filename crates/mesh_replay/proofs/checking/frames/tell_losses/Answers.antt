use Rattle.mesh_replay.proofs.Common.{ap, map, drop_all, drop_more, Lost}
use Rattle.mesh_replay.proofs.CheckingLemmas.Telling.{tells_more, tells_nowhere, tells_stop, tells_to}
use Rattle.mesh_replay.proofs.FramesLemmas.Items.{loss_told}
use Rattle.mesh_replay.proofs.checking.frames.tell_losses.Goals as goal

pub loop-arc-init : goal.loop-arc-init
loop-arc-init c = tells_nowhere c.requires

pub loop-arc-preserved : goal.loop-arc-preserved
loop-arc-preserved c =
    tells_more c.loop-arc.invariant (λ s. ap (map Lost) (drop_more c.args.lost.now c.loop-arc.arc-index 0 c.loop-arc-test.true)) (loss_told c.loop-arc.invariant.progress c.in_ok-take_due.ensures) c.if-not-branch.false

pub returns-then-not-branch : goal.returns-then-not-branch
returns-then-not-branch c =
    tells_stop c.loop-arc.invariant (λ s. ap (map Lost) (drop_more c.args.lost.now c.loop-arc.arc-index 0 c.loop-arc-test.true)) (loss_told c.loop-arc.invariant.progress c.in_ok-take_due.ensures) c.if-not-branch.true

pub returns : goal.returns
returns c = tells_to c.loop-arc.invariant (λ s. ap (map Lost) (drop_all _ _ c.loop-arc-test.false))
