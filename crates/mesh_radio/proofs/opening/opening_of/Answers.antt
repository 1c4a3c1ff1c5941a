use Rattle.mesh_radio.proofs.Common.{List, map, subst, State, RouterSettings, AreOpening}
use Rattle.mesh_radio.proofs.Beginning.{opening_sound, opening_net, some_router}
use Rattle.mesh_radio.proofs.opening.opening_of.Goals as goal

pub first_due-requires : goal.first_due-requires
first_due-requires g c =
    let state = g.R.DeferringRouter.state in
    let routers = c.in_ok-routers.routers.items in
    some_router state c.args.scenario.now routers (subst (λ (rs : List RouterSettings). AreOpening rs (map state routers)) c.as_slice.ensures c.in_ok-routers.ensures)

pub returns-clause-sound : goal.returns-clause-sound
returns-clause-sound g c =
    let states : List State = map g.R.DeferringRouter.state c.in_ok-routers.routers.items in
    opening_sound c.args.scenario.now states c.first_due.result c.in_ok-scene.scene
    (subst (λ (rs : List RouterSettings). AreOpening rs states) c.as_slice.ensures c.in_ok-routers.ensures) c.first_due.ensures c.in_ok-scene.ensures

pub returns-clause-opening : goal.returns-clause-opening
returns-clause-opening g c =
    let states : List State = map g.R.DeferringRouter.state c.in_ok-routers.routers.items in
    opening_net c.args.scenario.now states c.first_due.result c.in_ok-scene.scene
    (subst (λ (rs : List RouterSettings). AreOpening rs states) c.as_slice.ensures c.in_ok-routers.ensures) c.in_ok-scene.ensures
