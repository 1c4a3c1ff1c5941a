-- The end of a run.
use Rattle.mesh_emulate.proofs.Common.{◌≡◌, ℕ, List, get_or, All, slice_get-get_or, RadioGraph, Scenario, At, Sound, State, AreRoutersAt, end_together, IsNetwork, run_states, WholeRun}

-- the states at the end of a run are sound, all at the scenario's end
pub at_end : (s : Scenario) (run : WholeRun s) (x : ℕ) (p : State) → At run.final.routers x p → Sound p × (p.last ≡ s.end)
at_end s run x p at = end_together s run.opening run.events run.final run.is_opening run.runs run.over x p at.is

-- the routers of a run that is over are the scenario's, at its end
pub end_routers : (s : Scenario) (run : WholeRun s) → AreRoutersAt s run.final.routers s.end
end_routers s run = record { routers = run_states s run; sound = λ x p at. (at_end s run x p at).0; moment = λ x p at. (at_end s run x p at).1 }

pub all_sound : (s : Scenario) (g : RadioGraph) (states : List State) (now : ℕ) → IsNetwork s g states now → All Sound states
all_sound s g states now net k d lt = net.sound k (get_or states k d) (record { is = slice_get-get_or states k d lt })
