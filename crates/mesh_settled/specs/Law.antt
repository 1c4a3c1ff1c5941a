-- Laws of the routes of a settled network.
use Rattle.std.specs.Prelude.{ℕ, List}
use Rattle.mesh_atoms.specs.declared.graphs.RadioGraph.{RadioGraph}
use Rattle.mesh_atoms.specs.declared.settings.Scenario.{Scenario}
use Rattle.mesh_atoms.specs.Settled.{Settled}
use Rattle.mesh_atoms.specs.State.{State}
use Rattle.mesh_settled.specs.Gaps.Network.{IsNetwork}
use Rattle.mesh_settled.specs.LeastRoutes.{AreLeastRoutes, NextHopsLeadOn}

-- the rows of a settled network
abbrev pub IsLeastWhereSettled : Type 0
IsLeastWhereSettled =
    (s : Scenario) (g : RadioGraph) (states : List State) (now : ℕ) → IsNetwork s g states now → Settled s states now →
    AreLeastRoutes s states

-- and its next hops
abbrev pub LeadsWhereSettled : Type 0
LeadsWhereSettled =
    (s : Scenario) (g : RadioGraph) (states : List State) (now : ℕ) → IsNetwork s g states now → Settled s states now →
    NextHopsLeadOn s states
