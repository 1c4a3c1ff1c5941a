-- The state of a search by a frontier: rows that may yet get better, and steps that are yet to be taken.
use Rattle.std.specs.Prelude.{◌≡◌, ◌≢◌, ℕ, ◌+◌, ◌*◌, ◌≤◌, ◌⊎◌, List, Contains, length}
use Rattle.mesh_atoms.specs.declared.addr.NetAddr.{NetAddr}
use Rattle.mesh_atoms.specs.declared.graphs.Arc4.{Arc4}
use Rattle.mesh_atoms.specs.declared.graphs.PathRow.{PathRow}
use Rattle.mesh_paths.specs.declared.frontier.SearchStep.{SearchStep}
use Rattle.mesh_paths.specs.Search.{IsSettledRow, PutsStep, step_of}
use Rattle.mesh_paths.specs.Reached.{RowMap, weight_in, IsMetIn, Betters, HasAsGood, IsInRange, HasLedRows}

-- what the arc offers is met, or the step to the node that it leaves waits
abbrev pub IsMetOrWaits : RowMap → List SearchStep → Arc4 → Type 0
IsMetOrWaits map steps arc = IsMetIn map arc ⊎ ((row : PathRow) × IsSettledRow map row × (row.node ≡ arc.from) × Contains steps (step_of row))

-- so for each arc
pub record IsSearch (map : RowMap) (arcs : List Arc4) (from : NetAddr) (steps : List SearchStep) : Type 0 where
  pub led : HasLedRows map arcs from
  pub each : (a : Arc4) → Contains arcs a → IsMetOrWaits map steps a

-- so for each arc that doesn't leave the row's node
pub record IsTaking (map : RowMap) (arcs : List Arc4) (from : NetAddr) (first : PathRow) (steps : List SearchStep) : Type 0 where
  pub led : HasLedRows map arcs from
  pub found : IsSettledRow map first
  pub others : (a : Arc4) → Contains arcs a → a.from ≢ first.node → IsMetOrWaits map steps a

-- the row that the arc offers from another
abbrev pub offered : PathRow → Arc4 → PathRow
offered first arc = record { node = arc.to; metric = first.metric + arc.metric; parent = arc.from }

-- the arc is offered: its row goes into the map and its step into the frontier, or a row is as good and nothing changes
abbrev pub OffersArc : RowMap → List SearchStep → PathRow → Arc4 → RowMap → List SearchStep → Type 0
OffersArc map steps first arc map' steps' =
    ((map' ≡ map) × (steps' ≡ steps) × HasAsGood map arc.to (first.metric + arc.metric) arc.from)
    ⊎ (Betters map (offered first arc) map' × IsInRange arc (offered first arc) × PutsStep steps (step_of (offered first arc)) steps')

-- a number that falls with each step that is taken
abbrev pub work_in : RowMap → List Arc4 → List SearchStep → ℕ
work_in map arcs steps = length steps + 2 * weight_in map arcs

-- arcs are offered: what was met or waits still does so, and so does each of them
pub record OffersAll (map : RowMap) (steps : List SearchStep) (arcs : List Arc4) (from : NetAddr) (first : PathRow) (run : List Arc4)
    (map' : RowMap) (steps' : List SearchStep) : Type 0 where
  pub taking : IsTaking map' arcs from first steps'
  pub carried : (a : Arc4) → IsMetOrWaits map steps a → IsMetOrWaits map' steps' a
  pub done : (a : Arc4) → Contains run a → IsMetOrWaits map' steps' a
  pub work : work_in map' arcs steps' ≤ work_in map arcs steps
