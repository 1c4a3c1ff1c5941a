use Rattle.mesh_radio.proofs.Common.{map}
use Rattle.mesh_radio.proofs.RunsOff.{none_put_off, one_put_off, none_left_off}
use Rattle.mesh_radio.proofs.deferring.do_events.Goals as goal

pub loop-init : goal.loop-init
loop-init g c = none_put_off (map g.R.DeferringRouter.state c.args.routers.now.items) c.args.scene.now c.requires.sound c.requires.sounds

pub next_event-requires : goal.next_event-requires
next_event-requires g c = record { sound = c.loop.invariant.sound }

pub loop-preserved : goal.loop-preserved
loop-preserved g c =
    let state = g.R.DeferringRouter.state in
    one_put_off _ (map state c.loop.routers.items) (map state c.next_event.new.routers.items) c.loop.scene c.next_event.new.scene _ c.loop.invariant (rw c.in-Some.is at c.in_ok-_event.ensures)

pub returns-in_default : goal.returns-in_default
returns-in_default g c =
    let state = g.R.DeferringRouter.state in
    none_left_off (map state c.args.routers.now.items) c.args.scene.now (map state c.loop.routers.items) (map state c.next_event.new.routers.items) c.loop.scene c.next_event.new.scene c.loop.invariant (rw c.in_default.is at c.in_ok-_event.ensures)
