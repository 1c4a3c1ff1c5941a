use Rattle.mesh_radio.proofs.Common.{◌∙◌, map, sym, ap, map-id, YieldsList-from_vec, YieldsList-end}
use Rattle.mesh_radio.proofs.Turning.{one_turned, one_sound}
use Rattle.mesh_radio.proofs.deferring.defer_each.Goals as goal

pub loop-core-preserved : goal.loop-core-preserved
loop-core-preserved g c = record {
  states = one_turned g.C.DeferringRouter.state g.R.DeferringRouter.state _ _ _ _ _ c.in_ok-of_whole.ensures.state c.in_ok-push.ensures.items c.loop-core.invariant.states;
  sounds = one_sound g.R.DeferringRouter.state _ _ _ c.in_ok-of_whole.ensures.sound c.in_ok-push.ensures.items c.loop-core.invariant.sounds;
}

pub returns-clause-states : goal.returns-clause-states
returns-clause-states g c =
    let gives = c.into_iter-core-iterator.ensures.into_iter_gives in
    let ended = (YieldsList-end (YieldsList-from_vec c.args.cores.items gives.0 (gives.1 ∙ c.args.cores.ok.0)) c.loop-core.yielded c.loop-core.core-iterator c.loop-core.yielded_by _ c.next.new.self c.in-None.is c.next.ensures.steps).0 in
    c.loop-core.invariant.states ∙ ap (map g.C.DeferringRouter.state) (sym (map-id c.loop-core.yielded) ∙ ended)

pub returns-clause-sounds : goal.returns-clause-sounds
returns-clause-sounds g c = c.loop-core.invariant.sounds
