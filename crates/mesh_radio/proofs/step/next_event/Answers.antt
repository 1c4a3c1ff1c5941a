use Rattle.mesh_radio.proofs.Common.{map}
use Rattle.mesh_radio.proofs.Happenings.{told_since, sound_since, quiet_since}
use Rattle.mesh_radio.proofs.step.next_event.Goals as goal

pub hear_next-requires : goal.hear_next-requires
hear_next-requires g c = record { sound = c.requires.sound }

pub tick_next-requires-clause-sound : goal.tick_next-requires-clause-sound
tick_next-requires-clause-sound g c =
    let state = g.R.DeferringRouter.state in
    sound_since (map state c.args.routers.now.items) (map state c.hear_next.new.routers.items) c.args.scene.now c.hear_next.new.scene (rw c.in-None.is at c.in_ok-heard.ensures) c.requires.sound

pub tick_next-requires-clause-quiet : goal.tick_next-requires-clause-quiet
tick_next-requires-clause-quiet g c =
    let state = g.R.DeferringRouter.state in
    quiet_since (map state c.args.routers.now.items) (map state c.hear_next.new.routers.items) c.args.scene.now c.hear_next.new.scene (rw c.in-None.is at c.in_ok-heard.ensures)

pub returns-in-Some : goal.returns-in-Some
returns-in-Some g c = rw c.in-Some.is at c.in_ok-heard.ensures

pub returns-in-None : goal.returns-in-None
returns-in-None g c =
    let state = g.R.DeferringRouter.state in
    told_since c.args.until (map state c.args.routers.now.items) (map state c.hear_next.new.routers.items) (map state c.tick_next.new.routers.items) c.args.scene.now c.hear_next.new.scene c.tick_next.new.scene c.tick_next.result
    (rw c.in-None.is at c.in_ok-heard.ensures) c.tick_next.ensures
