use Rattle.mesh_replay.proofs.Common.{length, ap, arith, RouterSettings}
use Rattle.mesh_replay.proofs.CheckingLemmas.Telling.{tells_more, tells_nowhere, tells_stop, tells_to}
use Rattle.mesh_replay.proofs.FramesLemmas.Items.{hellos_done, hellos_more}
use Rattle.mesh_replay.proofs.checking.hellos.tell_hellos.Goals as goal

pub returns-then-not-due : goal.returns-then-not-due
returns-then-not-due g c = rw c.if-not-due.true (tells_nowhere c.requires.progress)

pub loop-iface-init : goal.loop-iface-init
loop-iface-init g c = tells_nowhere c.requires.progress

pub loop-iface-preserved : goal.loop-iface-preserved
loop-iface-preserved g c =
    tells_more c.loop-iface.invariant (λ s. hellos_more (g.R.RouterOfTrace.state c.args.router.now).settings.interfaces c.loop-iface.iface (let a = c.loop-iface-test.true in let b = c.len-iface-end.ensures in let d = ap (λ (r : RouterSettings). length r.interfaces) c.requires.router.settings in omega (arith, a, b, d))) c.in_ok-tell_hello_of.ensures c.if-not-branch.false

pub returns-then-not-branch : goal.returns-then-not-branch
returns-then-not-branch g c =
    rw c.if-not-due.false (tells_stop c.loop-iface.invariant (λ s. hellos_more (g.R.RouterOfTrace.state c.args.router.now).settings.interfaces c.loop-iface.iface (let a = c.loop-iface-test.true in let b = c.len-iface-end.ensures in let d = ap (λ (r : RouterSettings). length r.interfaces) c.requires.router.settings in omega (arith, a, b, d))) c.in_ok-tell_hello_of.ensures c.if-not-branch.true)

pub returns : goal.returns
returns g c =
    rw c.if-not-due.false (tells_to c.loop-iface.invariant (λ s. hellos_done (g.R.RouterOfTrace.state c.args.router.now).settings.interfaces c.loop-iface.iface (let a = c.loop-iface-test.false in let b = c.len-iface-end.ensures in let d = ap (λ (r : RouterSettings). length r.interfaces) c.requires.router.settings in omega (arith, a, b, d))))
