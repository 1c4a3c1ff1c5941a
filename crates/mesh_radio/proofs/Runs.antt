-- Runs of a network.
use Rattle.mesh_radio.proofs.Common.{◌≡◌, List, [], ◌∷◌, subst, sym, NetEvent, NetState, NetStep, NetRun, IsOver}

-- whatever run goes on from here, a run from the start leads there
abbrev pub RunsOn : NetState → NetState → Type 0
RunsOn start here = (more : List NetEvent) (new : NetState) → NetRun here more new → (all : List NetEvent) × NetRun start all new

pub one_step : (start here there : NetState) (event : NetEvent) → NetStep here event there → RunsOn start here → RunsOn start there
one_step start here there event step runs more new run = runs (event ∷ more) new (there, step, run)

pub run_over : (start here there : NetState) → RunsOn start here → IsOver here × (there ≡ here) → (all : List NetEvent) × NetRun start all there × IsOver there
run_over start here there runs over = let (all, run) = runs [] there over.1 in (all, run, subst IsOver (sym over.1) over.0)
