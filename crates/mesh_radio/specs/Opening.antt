-- A network before its first event: its routers, and what it has besides.
use Rattle.std.specs.Prelude.{◌≡◌, ℕ, List, [], Some, slice_get, length}
use Rattle.mesh_atoms.specs.State.{State}
use Rattle.mesh_atoms.specs.declared.settings.RouterSettings.{RouterSettings}
use Rattle.mesh_atoms.specs.declared.settings.Scenario.{Scenario}
use Rattle.mesh_machine.specs.Machine.{IsOpening}
use Rattle.mesh_radio.specs.declared.scene.Due.{Due}
use Rattle.mesh_radio.specs.declared.scene.Scene.{Scene}
use Rattle.mesh_machine.specs.Ways.{AreArcsOut}

-- the first routers, one for each settings, so many
pub record AreOpeningUpTo (settings : List RouterSettings) (count : ℕ) (routers : List State) : Type 0 where
  pub count_is : length routers ≡ count
  pub each : (x : ℕ) (state : State) → slice_get routers x ≡ Some state → (r : RouterSettings) × (slice_get settings x ≡ Some r) × IsOpening r state

-- all routers
abbrev pub AreOpening : List RouterSettings → List State → Type 0
AreOpening settings routers = AreOpeningUpTo settings (length settings) routers

-- what the network of a scenario has besides its routers, where this is due first
pub record IsOpeningScene (scenario : Scenario) (due : Due) (s : Scene) : Type 0 where
  pub scenario_is : s.scenario ≡ scenario
  pub ways : AreArcsOut scenario.arcs scenario.routers (length scenario.routers) s.ways
  pub traffic : s.traffic ≡ record { air = []; counts = record { sent = 0; delivered = 0; lost = 0 }; draws = record { seed = scenario.seed; drawn = 0 } }
  pub due_is : s.due ≡ due
  pub last_ticks : s.last_ticks ≡ 0
  pub now : s.now ≡ 0
