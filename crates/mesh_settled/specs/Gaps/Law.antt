-- Laws of gaps.
use Rattle.std.specs.Prelude.{ℕ, ◌↔◌, ◌≢◌, List, Option}
use Rattle.mesh_atoms.specs.declared.graphs.RadioGraph.{RadioGraph}
use Rattle.mesh_atoms.specs.declared.settings.Scenario.{Scenario}
use Rattle.mesh_atoms.specs.Settled.{At, IsSettledAt}
use Rattle.mesh_atoms.specs.State.{State}
use Rattle.mesh_atoms.specs.declared.gap.GapKey.{GapKey}
use Rattle.mesh_atoms.specs.declared.gap.GapValue.{GapValue}
use Rattle.mesh_settled.specs.Gaps.Gaps.{Look, look, IsGapAt, HasNoGap}
use Rattle.mesh_settled.specs.Gaps.Network.{IsNetwork}

-- a router is settled exactly where it has no gap
abbrev pub NoGapIsSettled : Type 0
NoGapIsSettled =
    (s : Scenario) (g : RadioGraph) (states : List State) (now x : ℕ) (p : State) → IsNetwork s g states now → At states x p →
    IsSettledAt s states now x p ↔ HasNoGap (look s states now x p)

-- the values of the two sides of a gap differ
abbrev pub GapsDiffer : Type 0
GapsDiffer = (l : Look) (key : GapKey) (held present : Option GapValue) → IsGapAt l key held present → held ≢ present
