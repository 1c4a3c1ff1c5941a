-- The states at the end of a run of a network are those of its scenario's routers, in order, and they are a network's at one moment.
use Rattle.mesh_texts.proofs.Common.{common_steps, ◌≡◌, ℕ, List, [], ◌∷◌, length, map, inl, inr, refl, sym, ap, ◌∙◌, subst, arith, length-set, slice_get_within, slice_get_cases, RouterSettings, Scenario, At, AreStates, Settled, State, NetEvent, same_some, NetState, NetStep, Moves, event_of, frames_of, NetRun, events_at, WholeRun, RoutersAreRuns}
use Rattle.mesh_atoms.specs.declared.graphs.RadioGraph.{RadioGraph}
use Rattle.mesh_atoms.specs.Radio.{Router, IsRadioGraph}
use Rattle.mesh_settled.specs.machine.declared.frame.Frame.{Frame}
use Rattle.mesh_settled.specs.machine.Machine.{Event, Step, Steps, No_events, First_event, Run}
use Rattle.mesh_settled.proofs.machine.Effects.{hears_settings}
use Rattle.mesh_settled.specs.machine.Traffic.{Traffic}
use Rattle.mesh_settled.proofs.paths.Scenarios.{sound_scenario}
use Rattle.mesh_settled.specs.paths.SettledRoutes.{IsSettledNetwork}
use Rattle.mesh_settled.proofs.machine.Through.{are_machines, end_together}
use Rattle.mesh_settled.specs.Gaps.Network.{IsNetwork}

-- Settings stay

step_settings : (old : State) (event : Event) (sent : List Frame) (new : State) → Step old event sent new → new.settings ≡ old.settings
step_settings old event sent new h4 = grind (arith, common_steps, hears_settings)

steps_settings : (old : State) (events : List Event) (sent : List (List Frame)) (new : State) → Steps old events sent new →
    new.settings ≡ old.settings
steps_settings old events sent new No_events = refl
steps_settings old (event ∷ events) (frames ∷ sent) new (First_event {mid = mid} step steps) =
    steps_settings mid events sent new steps ∙ step_settings old event frames mid step

run_settings : (settings : RouterSettings) (events : List Event) (sent : List (List Frame)) (new : State) → Run settings events sent new →
    new.settings ≡ settings
run_settings settings events sent new (opening, is, steps) = steps_settings opening events sent new steps ∙ is.settings_are

-- No router comes or goes

moved_count : (old new : NetState) (event : NetEvent) (before : Traffic) → Moves old event before new → length new.routers ≡ length old.routers
moved_count old new event before moves = ap length moves.routers ∙ length-set old.routers event.router moves.is

step_count : (old new : NetState) (event : NetEvent) → NetStep old event new → length new.routers ≡ length old.routers
step_count old new event h3 = grind (arith, common_steps, moved_count)

run_count : (old : NetState) (events : List NetEvent) (new : NetState) → NetRun old events new → length new.routers ≡ length old.routers
run_count old [] new is = ap (λ (n : NetState). length n.routers) is
run_count old (event ∷ events) new (mid, step, run) = run_count mid events new run ∙ step_count old mid event step

-- The end of a run

pub routers_are_runs : (s : Scenario) (run : WholeRun s) → RoutersAreRuns run
routers_are_runs s run = are_machines s run.opening run.events run.final run.is_opening run.runs

pub run_states : (s : Scenario) (run : WholeRun s) → AreStates s run.final.routers
run_states s run = record { settings = settings; all = all } where
  all : (x : ℕ) (r : RouterSettings) → Router s x r → (p : State) × At run.final.routers x p
  all x r is = let end = routers_are_runs s run x r is in (end.0, record { is = end.1 })

  settings : (x : ℕ) (p : State) → At run.final.routers x p → Router s x p.settings
  settings x p at = elim ((slice_get_cases s.routers x).1) [
    | inl there ↦
        let (r, _, is, _) = there in
        let end = routers_are_runs s run x r is in
        let same = same_some {a = end.0} {b = p} end.1 at.is in
        subst (λ (q : RouterSettings). Router s x q) (sym (run_settings r (map event_of (events_at x run.events)) (map frames_of (events_at x run.events)) end.0 end.2) ∙ ap (λ (q : State). q.settings) same) is
    | inr past ↦ absurd (
        let within = slice_get_within run.final.routers x p at.is in
        let count = run_count run.opening run.events run.final run.runs in
        let opening = run.is_opening.count in
        let beyond = past.0 in
        omega (arith, within, count, opening, beyond))
  ]

pub final_count : (s : Scenario) (run : WholeRun s) → length run.final.routers ≡ length s.routers
final_count s run = run_count run.opening run.events run.final run.runs ∙ run.is_opening.count

-- each is sound at the end, which is the moment of its last event
pub end_is_network : (s : Scenario) (g : RadioGraph) (run : WholeRun s) → IsRadioGraph s g → IsNetwork s g run.final.routers s.end
end_is_network s g run graph = record {
  graph = graph;
  routers = run_states s run;
  sound = λ x p at. (end_together s run.opening run.events run.final run.is_opening run.runs run.over x p at.is).0;
  moment = λ x p at. (end_together s run.opening run.events run.final run.is_opening run.runs run.over x p at.is).1;
}

-- where it is settled, what is known of settled networks holds of it
pub end_is_settled : (s : Scenario) (run : WholeRun s) → Settled s run.final.routers s.end → IsSettledNetwork s run.final.routers s.end
end_is_settled s run settled = record {
  scenario = sound_scenario s;
  routers = run_states s run;
  sound = λ x p at. (end_together s run.opening run.events run.final run.is_opening run.runs run.over x p at.is).0;
  moment = λ x p at. (end_together s run.opening run.events run.final run.is_opening run.runs run.over x p at.is).1;
  settled = settled;
}
