-- A network before its first line.
use Rattle.std.specs.Prelude.{◌≡◌, ℕ, List, [], Some, slice_get, length}
use Rattle.mesh_atoms.specs.State.{State}
use Rattle.mesh_atoms.specs.declared.settings.RouterSettings.{RouterSettings}
use Rattle.mesh_atoms.specs.declared.settings.Scenario.{Scenario}
use Rattle.mesh_trace.specs.machine.Machine.{IsOpening}
use Rattle.mesh_trace.specs.machine.Net.{IsFirstDue}
use Rattle.mesh_replay.specs.declared.checking.case.Progress.{Progress}
use Rattle.mesh_replay.specs.declared.checking.scene.FirstTick.{FirstTick}

-- the first routers, one for each settings, so many
pub record AreAtOpeningUpTo (settings : List RouterSettings) (count : ℕ) (routers : List State) : Type 0 where
  pub count_is : length routers ≡ count
  pub each : (x : ℕ) (state : State) → slice_get routers x ≡ Some state →
      (r : RouterSettings) × (slice_get settings x ≡ Some r) × IsOpening r state

-- all routers
abbrev pub AreAtOpening : List RouterSettings → List State → Type 0
AreAtOpening settings routers = AreAtOpeningUpTo settings (length settings) routers

-- no line was read, nothing flies, and no word of the seed was drawn
pub record IsOpeningProgress (seed : ℕ) (progress : Progress) : Type 0 where
  pub at_start : progress.reader.at ≡ 0
  pub none_taken : progress.reader.taken ≡ 0
  pub seed_is : progress.traffic.seed ≡ seed
  pub traffic_is : progress.traffic.traffic ≡ record { air = []; counts = record { sent = 0; delivered = 0; lost = 0 }; draws = 0 }

-- no router had an event
pub record IsAtFirstLine (scenario : Scenario) (routers : List State) (due : FirstTick) (last_ticks : ℕ) : Type 0 where
  pub are : AreAtOpening scenario.routers routers
  pub first : IsFirstDue routers due.router due.moment
  pub none : last_ticks ≡ 0
