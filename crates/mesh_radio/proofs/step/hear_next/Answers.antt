use Rattle.mesh_radio.proofs.Common.{◌≤◌, map, subst, sym, min, net_event_of, delivery_of, Scene, Happens, IsFlying, first_and_others}
use Rattle.mesh_radio.proofs.Happenings.{hears_next}
use Rattle.mesh_radio.proofs.Soundness.{later_routers}
use Rattle.mesh_radio.proofs.step.hear_next.Goals as goal

pub land-requires-clause-ways : goal.land-requires-clause-ways
land-requires-clause-ways g c = c.requires.sound.ways

pub land-requires-clause-routers : goal.land-requires-clause-routers
land-requires-clause-routers g c =
    let s = c.args.scene.now in
    let flies = (first_and_others (IsFlying s.scenario s.now) s.traffic.air (delivery_of c.in-Some.landed) c.take.new.self c.in-Some.ensures.first c.requires.sound.flying).0 in
    later_routers s.scenario s.now c.in-Some.landed.moment (map g.R.DeferringRouter.state c.args.routers.now.items) flies.later c.requires.sound.are_routers

pub land-requires-clause-seed : goal.land-requires-clause-seed
land-requires-clause-seed g c = c.requires.sound.seed

pub land-requires-clause-arc : goal.land-requires-clause-arc
land-requires-clause-arc g c =
    let s = c.args.scene.now in
    (first_and_others (IsFlying s.scenario s.now) s.traffic.air (delivery_of c.in-Some.landed) c.take.new.self c.in-Some.ensures.first c.requires.sound.flying).0.arc

pub returns : goal.returns
returns g c =
    let s = c.args.scene.now in
    let state = g.R.DeferringRouter.state in
    let d = delivery_of c.in-Some.landed in
    let soon : d.moment ≤ min s.due.moment s.scenario.end = rw (← c.min-limit.ensures) c.in-Some.ensures.limit in
    let old = map state c.args.routers.now.items in
    let new = map state c.land.new.routers.items in
    let event = net_event_of c.in_ok-event.event in
    let after = c.land.new.scene in
    subst (λ (t : Scene). Happens c.args.until old s event new (record t { now = d.moment })) (sym c.in_ok-event.ensures.scene)
    (hears_next c.args.until s old new d c.take.new.self event after.outbox after.traffic c.requires.sound c.in-Some.ensures.first soon c.in_ok-event.ensures.lands c.in_ok-event.ensures.seed)
