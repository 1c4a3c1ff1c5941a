use Rattle.mesh_replay.proofs.Common.{[], ap, map, subst, Reader, at, FitsOrStops, net_of}
use Rattle.mesh_replay.proofs.SceneLemmas.Ticks.{comes_of, sound_after}
use Rattle.mesh_replay.proofs.checking.step.next_event.Goals as goal

pub returns-clause-comes : goal.returns-clause-comes
returns-clause-comes g c =
    let case = c.args.case.now in
    let scene = c.args.scene.now in
    let old = map g.R.RouterOfTrace.state scene.routers.items in
    let new = map g.R.RouterOfTrace.state c.take_event.new.routers.items in
    let settled = map g.R.RouterOfTrace.state c.settle.new.scene.routers.items in
    let before = net_of case old scene.last_ticks c.args.progress.now in
    comes_of case c.take_event.new.progress new settled c.settle.new.scene.due c.in-Some.next.last_ticks c.settle.new.scene.last_ticks c.in_ok-fits.fits c.settle.result c.settle.ensures.outcome
    (ap (map g.R.RouterOfTrace.state) c.settle.ensures.routers) c.settle.ensures.last_ticks c.args.progress.now before
    (λ x. (
      c.in-Some.next.router,
      subst (λ (r : Reader). FitsOrStops case.trace.now r c.take_event.new.progress.reader (at before x []) (at (net_of case new c.in-Some.next.last_ticks c.take_event.new.progress) c.in-Some.next.router []) c.in_ok-fits.fits)
          c.next_of.ensures.reader (c.in_ok-fits.ensures.goes scene.last_ticks c.args.progress.now x (c.in-Some.ensures.next old c.requires.sound)),
    ))

pub returns-clause-sound : goal.returns-clause-sound
returns-clause-sound g c =
    let new = map g.R.RouterOfTrace.state c.take_event.new.routers.items in
    let settled = map g.R.RouterOfTrace.state c.settle.new.scene.routers.items in
    sound_after c.args.case.now c.take_event.new.progress new settled c.settle.new.scene.due c.in-Some.next.last_ticks c.settle.new.scene.last_ticks c.in_ok-fits.fits c.settle.result c.settle.ensures.outcome
    (ap (map g.R.RouterOfTrace.state) c.settle.ensures.routers) c.settle.ensures.last_ticks
    c.requires.sound.case_is c.in_ok-fits.ensures.kept.progress_is c.in_ok-fits.ensures.kept.kept c.settle.ensures.first (c.in-Some.ensures.next (map g.R.RouterOfTrace.state c.args.scene.now.routers.items) c.requires.sound).few
