-- The network that is checked, and what comes of its next event.
use Rattle.std.specs.Prelude.{◌≡◌, ◌≤◌, ℕ, List, [], length}
use Rattle.mesh_atoms.specs.State.{State}
use Rattle.mesh_trace.specs.machine.Net.{NetState, IsFirstDue}
use Rattle.mesh_trace.specs.machine.NetRun.{IsOver}
use Rattle.mesh_replay.specs.declared.checking.case.Case.{Case}
use Rattle.mesh_replay.specs.declared.checking.case.Progress.{Progress}
use Rattle.mesh_replay.specs.declared.checking.scene.FirstTick.{FirstTick}
use Rattle.mesh_replay.specs.declared.checking.scene.Outcome.{Outcome}
use Rattle.mesh_replay.specs.declared.checking.scene.Outcome.TheVariants.{Fits, Unfit, Over}
use Rattle.mesh_replay.specs.Checking.Cases.{IsCase, IsProgress}
use Rattle.mesh_replay.specs.Checking.Going.{at, Went, StopsBefore}
use Rattle.mesh_replay.specs.Checking.Kept.{AreAtRest}
use Rattle.mesh_trace.specs.Positions.Leading.{Reaches}

-- the network that is meant
abbrev pub net_of : Case → List State → ℕ → Progress → NetState
net_of case routers last_ticks progress =
    record { scenario = case.scenario.now; routers = routers; traffic = progress.traffic.traffic; last_ticks = last_ticks }

-- lines lead to the network between events
abbrev pub IsReachedNet : Case → NetState → Type 0
IsReachedNet case net = (lines : List (List ℕ)) × (x : ℕ) × Reaches case.scenario.now lines (at net x [])

-- what is true between events
pub record IsSoundScene (case : Case) (routers : List State) (due : FirstTick) (last_ticks : ℕ) (progress : Progress) : Type 0 where
  pub case_is : IsCase case
  pub progress_is : IsProgress case progress
  pub kept : AreAtRest case.scenario.now routers
  pub first : IsFirstDue routers due.router due.moment
  pub few : last_ticks ≤ length routers

-- what came of the next event, from the network before it, in whosever event it stood
abbrev pub Comes : Case → Progress → Progress → NetState → NetState → Outcome → Type 0
Comes case old new before after Fits = (x : ℕ) → (y : ℕ) × Went case.trace.now old.reader new.reader (at before x []) (at after y [])
Comes case old new before after Unfit = (x : ℕ) → StopsBefore case.trace.now old.reader new.reader (at before x [])
Comes case old new before after Over = IsOver before × (after ≡ before) × (new.reader ≡ old.reader)
