use Rattle.mesh_radio.proofs.Common.{map, subst, sym, NetEvent, Happens}
use Rattle.mesh_radio.proofs.step.tell_next.Goals as goal

pub next_event-requires : goal.next_event-requires
next_event-requires g c = record { sound = c.requires.sound }

pub returns-in_ok-event-in-Some : goal.returns-in_ok-event-in-Some
returns-in_ok-event-in-Some g c =
    let state = g.R.DeferringRouter.state in
    subst (λ (event : NetEvent). Happens 0 (map state c.args.routers.now.items) c.args.scene.now event (map state c.next_event.new.routers.items) c.next_event.new.scene) (sym c.in_ok-event-in-Some.ensures) (rw c.in-Some.is at c.in_ok-came.ensures)

pub returns-in-None : goal.returns-in-None
returns-in-None g c = rw c.in-None.is at c.in_ok-came.ensures
