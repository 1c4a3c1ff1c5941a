use Rattle.mesh_radio.proofs.Common.{◌∙◌, ap, List, map, subst, sym, State, IsSound}
use Rattle.mesh_radio.proofs.deferring.run_to_end.Goals as goal

pub do_events-requires-clause-sound : goal.do_events-requires-clause-sound
do_events-requires-clause-sound g c =
    subst (λ (l : List State). IsSound l c.args.scene.now) (sym (c.in_ok-deferred.ensures.states ∙ ap (map g.C.DeferringRouter.state) (ap (λ v. v.items) c.replace-whole.ensures.value))) c.requires.sound

pub do_events-requires-clause-sounds : goal.do_events-requires-clause-sounds
do_events-requires-clause-sounds g c = c.in_ok-deferred.ensures.sounds

pub all_whole-requires : goal.all_whole-requires
all_whole-requires g c = c.in_ok-do_events.ensures.sounds
