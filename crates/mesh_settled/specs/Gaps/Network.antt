-- A network at a moment.
use Rattle.std.specs.Prelude.{◌≡◌, ℕ, List}
use Rattle.mesh_atoms.specs.declared.graphs.RadioGraph.{RadioGraph}
use Rattle.mesh_atoms.specs.declared.settings.Scenario.{Scenario}
use Rattle.mesh_atoms.specs.Radio.{IsRadioGraph}
use Rattle.mesh_atoms.specs.Settled.{At, AreStates}
use Rattle.mesh_atoms.specs.Sound.{Sound}
use Rattle.mesh_atoms.specs.State.{State}

-- the graph is the scenario's radio graph, and the states are those of its routers, in order, each sound and at that moment
pub record IsNetwork (s : Scenario) (g : RadioGraph) (states : List State) (now : ℕ) : Type 0 where
  pub graph : IsRadioGraph s g
  pub routers : AreStates s states
  pub sound : (x : ℕ) (p : State) → At states x p → Sound p
  pub moment : (x : ℕ) (p : State) → At states x p → p.last ≡ now
