use Rattle.mesh_radio.proofs.Common.{arith, map, subst, sym, length-map, slice_get_within, Scene, net_event_of, Happens}
use Rattle.mesh_radio.proofs.Happenings.{tick_within, tick_in_time, tick_later, ticks_next, nothing_left}
use Rattle.mesh_radio.proofs.Soundness.{later_routers, same_count}
use Rattle.mesh_radio.proofs.step.tick_next.Goals as goal

pub tick_one-requires-clause-ways : goal.tick_one-requires-clause-ways
tick_one-requires-clause-ways g c = c.requires.sound.ways

pub tick_one-requires-clause-routers : goal.tick_one-requires-clause-routers
tick_one-requires-clause-routers g c =
    let s = c.args.scene.now in
    let old = map g.R.DeferringRouter.state c.args.routers.now.items in
    later_routers s.scenario s.now c.in-Some.tick.moment old (tick_later s old c.requires.sound c.requires.quiet c.in-Some.tick c.in-Some.ensures) c.requires.sound.are_routers

pub tick_one-requires-clause-seed : goal.tick_one-requires-clause-seed
tick_one-requires-clause-seed g c = c.requires.sound.seed

pub tick_one-requires-clause-early : goal.tick_one-requires-clause-early
tick_one-requires-clause-early g c =
    let s = c.args.scene.now in
    let in_time = tick_in_time s (map g.R.DeferringRouter.state c.args.routers.now.items) c.requires.sound c.requires.quiet c.in-Some.tick c.in-Some.ensures in
    let most = s.scenario.end_in_range.most in
    omega (arith, in_time, most)

pub tick_one-requires-clause-router : goal.tick_one-requires-clause-router
tick_one-requires-clause-router g c =
    tick_within c.args.scene.now (map g.R.DeferringRouter.state c.args.routers.now.items) c.requires.sound c.requires.quiet c.in-Some.tick c.in-Some.ensures

pub returns : goal.returns
returns g c =
    let state = g.R.DeferringRouter.state in
    let s = c.args.scene.now in
    let old = map state c.args.routers.now.items in
    let new = map state c.tick_one.new.routers.items in
    let event = net_event_of c.in_ok-event.event in
    let tick = c.in-Some.tick in
    let after = c.tick_one.new.scene in
    let due = c.first_due-scene.result in
    subst (λ (t : Scene). Happens c.args.until old s event new (record t { due = due; last_ticks = tick.last_ticks; now = tick.moment })) (sym c.in_ok-event.ensures.scene)
    (ticks_next s old c.requires.sound c.requires.quiet c.args.until new event after.outbox after.traffic due tick c.in-Some.ensures c.in_ok-event.ensures.ticks c.in_ok-event.ensures.seed c.first_due-scene.ensures)

pub returns-in_default : goal.returns-in_default
returns-in_default g c = nothing_left c.args.scene.now (map g.R.DeferringRouter.state c.args.routers.now.items) c.requires.sound c.requires.quiet c.in_default.ensures

pub first_due-scene-requires : goal.first_due-scene-requires
first_due-scene-requires g c =
    let state = g.R.DeferringRouter.state in
    let first = c.requires.sound.due in
    let same = same_count c.in_ok-event.ensures.ticks.stepped in
    let below = slice_get_within (map state c.args.routers.now.items) c.args.scene.now.due.router first.state first.stands in
    omega (arith, same, below, length-map c.tick_one.new.routers.items state)
