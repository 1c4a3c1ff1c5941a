-- Runs to the end in which routers put off relays and routes up to it.
use Rattle.mesh_radio.proofs.Common.{common_steps, ◌≡◌, ◌∙◌, Bool, false, List, Result, sym, ap, subst, arith, OnOk, is_err, slice_get_within, State, NetEvent, Scenario, NetState, NetStep, IsOver, NetRun, Scene, AreKeptOf, AreSoundStates, Happens, IsLeft, IsSound, RunsOver, net_of, same_at}
use Rattle.mesh_radio.proofs.SameSteps.{net_step_from}
use Rattle.mesh_radio.proofs.Keeping.{all_kept}
use Rattle.mesh_radio.proofs.Runs.{RunsOn, one_step, run_over}

-- what is true between the events: those that were done lead to sound routers, of which these are kept
pub record RunsOff (start : NetState) (rests : List State) (s : Scene) : Type 0 where
  pub reached : List State
  pub runs : RunsOn start (net_of reached s)
  pub kept : AreKeptOf s.scenario.end reached rests
  pub sounds : AreSoundStates reached
  pub sound : IsSound rests s

-- before the first event
pub none_put_off : (routers : List State) (s : Scene) → IsSound routers s → AreSoundStates routers → RunsOff (net_of routers s) routers s
none_put_off routers s sound sounds = grind (arith, common_steps, same_at)

same_scenario : (old : NetState) (event : NetEvent) (new : NetState) → NetStep old event new → new.scenario ≡ old.scenario
same_scenario old event new h3 = grind (arith, common_steps)

-- one event more
pub one_put_off : (start : NetState) (old new : List State) (before after : Scene) (event : NetEvent) → RunsOff start old before → Happens before.scenario.end old before event new after → RunsOff start new after
one_put_off start old new before after event runs happens =
    let (reached, step, kept, sounds) = net_step_from before.scenario.end runs.reached old happens.reached new before after event runs.kept happens.rest runs.sounds happens.step in
    record {
      reached = reached;
      runs = one_step start (net_of runs.reached before) (net_of reached after) event step runs.runs;
      kept = subst (λ (s : Scenario). AreKeptOf s.end reached new) (sym (same_scenario _ event _ happens.step)) kept;
      sounds = sounds;
      sound = happens.sound;
    }

-- where no event is left, nothing is put off any more
pub none_left_off : (opening : List State) (first : Scene) (old new : List State) (before after : Scene) → RunsOff (net_of opening first) old before → IsLeft old before new after → RunsOver opening first new after
none_left_off opening first old new before after runs left =
    let count = left.over.0.last_ticks in
    let same : runs.reached ≡ old = all_kept before.scenario.end runs.reached old runs.kept (λ x rest at. let less = slice_get_within old x rest at in runs.sound.ended x rest at (omega (arith, less, count))) in
    let stays : net_of new after ≡ net_of runs.reached before = left.over.1 ∙ ap (λ (l : List State). net_of l before) (sym same) in
    let over : IsOver (net_of runs.reached before) = subst (λ (l : List State). IsOver (net_of l before)) (sym same) left.over.0 in
    let (events, run, done) = run_over (net_of opening first) (net_of runs.reached before) (net_of new after) runs.runs (over, stays) in
    record {
      events = events;
      run = run;
      over = done;
      sound = left.sound;
      sounds = subst AreSoundStates (sym (ap (λ (n : NetState). n.routers) stays)) runs.sounds;
    }

-- a network after its run to the end: what was done, and that it is sound unless it is spent
module _ {T E : Type 0} (old new : List State) (before after : Scene) where
  pub ran_over : (r : Result T E) (was : NetState) → net_of old before ≡ was → OnOk r (RunsOver old before new after) → OnOk r ((events : List NetEvent) × NetRun was events (net_of new after) × IsOver (net_of new after))
  ran_over r was is ran = grind (arith, common_steps)

  pub sound_unless_given_up : (r : Result T E) (spent : Bool) → OnOk r (RunsOver old before new after) → spent ≡ is_err r → spent ≡ false → IsSound new after
  sound_unless_given_up r spent ran says whole = grind (arith, common_steps)
