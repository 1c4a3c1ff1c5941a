use Rattle.mesh_replay.proofs.Common.{common_steps, ◌<◌, length, ap, arith, RouterSettings}
use Rattle.mesh_replay.proofs.RelaysLemmas.Telling.{stops_flooding, told_more, told_nothing}
use Rattle.mesh_replay.proofs.checking.relays.tell_flooding.Goals as goal

pub loop-iface-init : goal.loop-iface-init
loop-iface-init g c = told_nothing c.requires.begun.none c.requires.progress _ c.new-flooding.ensures

pub returns-in-None : goal.returns-in-None
returns-in-None g c =
    let inside : c.loop-iface.iface < length (g.R.RouterOfTrace.state c.args.router.now).settings.interfaces =
    (let a = c.loop-iface-test.true in let b = c.len-iface-end.ensures in let d = ap (λ (r : RouterSettings). length r.interfaces) c.requires.begun.is_in.settings in omega (arith, a, b, d)) in
    stops_flooding c.requires.begun.is_in c.loop-iface.invariant inside c.in_ok-relays.ensures c.in-None.is

pub loop-iface-preserved : goal.loop-iface-preserved
loop-iface-preserved g c =
    let inside : c.loop-iface.iface < length (g.R.RouterOfTrace.state c.args.router.now).settings.interfaces =
    (let a = c.loop-iface-test.true in let b = c.len-iface-end.ensures in let d = ap (λ (r : RouterSettings). length r.interfaces) c.requires.begun.is_in.settings in omega (arith, a, b, d)) in
    told_more c.requires.begun.is_in c.loop-iface.invariant inside c.in_ok-relays.ensures c.in-Some.is c.in_ok-push-in-Some.ensures.ok

pub returns : goal.returns
returns g c = grind (arith, common_steps, c.len-iface-end.ensures, c.requires.begun.is_in.settings, c.loop-iface.invariant)
