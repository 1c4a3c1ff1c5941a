-- The arcs and steps of a search, and the rows that it has reached.
use Rattle.std.specs.Prelude.{◌≡◌, ℕ, ◌+◌, ◌*◌, ◌<◌, ◌≤◌, ◌⊎◌, List, Contains, length, slice_index_or, Some}
use Rattle.std.specs.Ordering.{nat_cmp, ordering_then}
use Rattle.std.specs.declared.cmp.Ordering.{Ordering}
use Rattle.std.specs.BTreeMap as tree
use Rattle.mesh_atoms.specs.declared.addr.NetAddr.{NetAddr}
use Rattle.mesh_atoms.specs.Nodes.{net_cmp}
use Rattle.mesh_atoms.specs.declared.graphs.Arc4.{Arc4}
use Rattle.mesh_atoms.specs.declared.graphs.PathRow.{PathRow}
use Rattle.mesh_paths.specs.declared.frontier.ArcRun.{ArcRun}
use Rattle.mesh_paths.specs.declared.frontier.SearchStep.{SearchStep}

-- Arcs

-- a number for each node, in their order
abbrev pub number_of : NetAddr → ℕ
number_of node = 64 * node.addr.0 + node.prefix

-- that of the node which an arc leaves
abbrev pub number_from : Arc4 → ℕ
number_from arc = number_of arc.from

-- arcs that stand together leave the node of that number
pub record IsRun (arcs : List Arc4) (run : ArcRun) : Type 0 where
  pub upto : run.start ≤ run.end
  pub inside : run.end ≤ length arcs
  pub leaves : (k : ℕ) (d : Arc4) → run.start ≤ k → k < run.end → number_from (slice_index_or arcs k d) ≡ run.number

-- runs that hold each arc
pub record IsIndex (arcs : List Arc4) (runs : List ArcRun) : Type 0 where
  pub each : (r : ArcRun) → Contains runs r → IsRun arcs r
  pub all : (k : ℕ) → k < length arcs → (r : ArcRun) × Contains runs r × (r.start ≤ k) × (k < r.end)

-- the runs of that number
pub record IsPart (runs : List ArcRun) (number : ℕ) (part : List ArcRun) : Type 0 where
  pub has : (r : ArcRun) → Contains part r → Contains runs r
  pub is : (r : ArcRun) → Contains part r → r.number ≡ number
  pub all : (r : ArcRun) → Contains runs r → r.number ≡ number → Contains part r

-- Steps

-- the order of the frontier
abbrev pub step_cmp : SearchStep → SearchStep → Ordering
step_cmp a b = ordering_then (nat_cmp a.metric b.metric) (ordering_then (net_cmp a.node b.node) (net_cmp a.parent b.parent))

-- the step as a row, and the row as a step
abbrev pub row_of : SearchStep → PathRow
row_of step = record { node = step.node; metric = step.metric; parent = step.parent }

-- the row as a step
abbrev pub step_of : PathRow → SearchStep
step_of row = record { metric = row.metric; node = row.node; parent = row.parent }

-- the step is put in, and nothing else
pub record PutsStep (steps : List SearchStep) (step : SearchStep) (steps' : List SearchStep) : Type 0 where
  pub has : Contains steps' step
  pub kept : (x : SearchStep) → Contains steps x → Contains steps' x
  pub cases : (x : SearchStep) → Contains steps' x → (x ≡ step) ⊎ Contains steps x
  pub more : length steps' ≤ length steps + 1

-- Rows

-- one row more
pub record Settles (Has : PathRow → Type 0) (row : PathRow) (More : PathRow → Type 0) : Type 0 where
  pub new : More row
  pub kept : (r : PathRow) → Has r → More r
  pub cases : (r : PathRow) → More r → (row ≡ r) ⊎ Has r

-- a settled row is found at its node
abbrev pub IsSettledRow : tree.BTreeMap NetAddr PathRow → PathRow → Type 0
IsSettledRow map row = tree.get net_cmp map row.node ≡ Some row

-- each row is found at its own node alone
abbrev pub IsKeyed : tree.BTreeMap NetAddr PathRow → Type 0
IsKeyed map = (node : NetAddr) (row : PathRow) → tree.get net_cmp map node ≡ Some row → row.node ≡ node
