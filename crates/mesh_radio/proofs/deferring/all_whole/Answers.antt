use Rattle.mesh_radio.proofs.Common.{◌∙◌, map, sym, ap, length, map-id, YieldsList-from_vec, YieldsList-end, YieldsList-turn}
use Rattle.mesh_radio.proofs.Turning.{one_turned, next_sound}
use Rattle.mesh_radio.proofs.deferring.all_whole.Goals as goal

pub into_whole-requires : goal.into_whole-requires
into_whole-requires g c =
    let gives = c.into_iter-router-iterator.ensures.into_iter_gives in
    let turn = YieldsList-turn (YieldsList-from_vec c.args.routers.items gives.0 (gives.1 ∙ c.args.routers.ok.0)) c.loop-router.yielded c.loop-router.router-iterator c.loop-router.yielded_by _ c.next.new.self c.in-Some.router c.in-Some.is c.next.ensures.steps in
    next_sound g.R.DeferringRouter.state c.args.routers.items (length c.loop-router.yielded) c.in-Some.router c.requires turn

pub loop-router-preserved : goal.loop-router-preserved
loop-router-preserved g c = one_turned g.R.DeferringRouter.state g.C.DeferringRouter.state _ _ _ _ _ c.into_whole.ensures c.in_ok-push.ensures.items c.loop-router.invariant

pub returns : goal.returns
returns g c =
    let gives = c.into_iter-router-iterator.ensures.into_iter_gives in
    let ended = (YieldsList-end (YieldsList-from_vec c.args.routers.items gives.0 (gives.1 ∙ c.args.routers.ok.0)) c.loop-router.yielded c.loop-router.router-iterator c.loop-router.yielded_by _ c.next.new.self c.in-None.is c.next.ensures.steps).0 in
    c.loop-router.invariant ∙ ap (map g.R.DeferringRouter.state) (sym (map-id c.loop-router.yielded) ∙ ended)
