-- The rows that a search has reached: each may yet get better, and what is left before none can.
use Rattle.std.specs.Prelude.{◌≡◌, ◌≢◌, ℕ, ◌+◌, ◌*◌, ◌<◌, ◌≤◌, ◌⊎◌, List, Contains, length, Option, Some, None}
use Rattle.std.specs.List.{sum_by}
use Rattle.std.specs.BTreeMap as tree
use Rattle.mesh_atoms.specs.declared.addr.NetAddr.{NetAddr}
use Rattle.mesh_atoms.specs.declared.graphs.Arc4.{Arc4}
use Rattle.mesh_atoms.specs.declared.graphs.PathRow.{PathRow}
use Rattle.mesh_atoms.specs.Nodes.{IsBefore, net_cmp}
use Rattle.mesh_paths.specs.Tree.{IsStart, IsAsGood, MeetsBy}
use Rattle.mesh_paths.specs.Search.{IsSettledRow, IsKeyed}

-- a map from nodes to their rows
abbrev pub RowMap : Type 0
RowMap = tree.BTreeMap NetAddr PathRow

-- 1 for a node that has no row
abbrev pub missing_of : Option PathRow → ℕ
missing_of None = 1
missing_of (Some _) = 0

-- a number that falls as a node gets a row, or a better one
abbrev pub weight_of : Option PathRow → ℕ
weight_of None = 20282409603651670423947251286016
weight_of (Some row) = 1099511627776 * row.metric + (64 * row.parent.addr.0 + row.parent.prefix)

-- how many arcs lead to a node that has no row
abbrev pub missing_in : RowMap → List Arc4 → ℕ
missing_in map arcs = sum_by (λ arc. missing_of (tree.get net_cmp map arc.to)) arcs

-- a number that falls with each row that gets better
abbrev pub weight_in : RowMap → List Arc4 → ℕ
weight_in map arcs = sum_by (λ arc. weight_of (tree.get net_cmp map arc.to)) arcs

-- what the arc offers is met by a row of the map
abbrev pub IsMetIn : RowMap → Arc4 → Type 0
IsMetIn map arc = (row : PathRow) → IsSettledRow map row → row.node ≡ arc.from → MeetsBy (IsSettledRow map) arc.to (row.metric + arc.metric) row.node

-- the row goes into the map at its node, where no row is as good
pub record Betters (old : RowMap) (row : PathRow) (new : RowMap) : Type 0 where
  pub has : tree.get net_cmp new row.node ≡ Some row
  pub others : (node : NetAddr) → node ≢ row.node → tree.get net_cmp new node ≡ tree.get net_cmp old node
  pub better : (before : PathRow) → tree.get net_cmp old row.node ≡ Some before →
      (row.metric < before.metric) ⊎ ((row.metric ≡ before.metric) × IsBefore row.parent before.parent)

-- the row is what the arc offers from a row of the map
abbrev pub IsOfferBy : RowMap → Arc4 → PathRow → Type 0
IsOfferBy map arc row =
    (first : PathRow) × IsSettledRow map first × (first.node ≡ arc.from) × (first.node ≡ row.parent) × (arc.to ≡ row.node)
    × (first.metric + arc.metric ≡ row.metric)

-- a row of the node is as good as this
abbrev pub HasAsGood : RowMap → NetAddr → ℕ → NetAddr → Type 0
HasAsGood map node metric parent = (before : PathRow) × (tree.get net_cmp map node ≡ Some before) × IsAsGood before metric parent

-- the numbers that a row by the arc weighs fit their types
abbrev pub IsInRange : Arc4 → PathRow → Type 0
IsInRange arc row = (row.metric < 18446744073709551616) × (row.parent.addr.0 < 4294967296) × (arc.metric < 4294967296)

-- the row is the start's, or no cheaper than what an arc offers from the row of its parent
abbrev pub IsLedTo : RowMap → List Arc4 → NetAddr → PathRow → Type 0
IsLedTo map arcs from row =
    IsStart from row.node row.metric row.parent
    ⊎ ((first : PathRow) × (arc : Arc4) × IsSettledRow map first × Contains arcs arc × (arc.from ≡ first.node)
    × (arc.to ≡ row.node) × (first.metric + arc.metric ≤ row.metric) × (first.node ≡ row.parent))

-- each row stands at its node and is led to, the start's is the best, and no metric is large
pub record HasLedRows (map : RowMap) (arcs : List Arc4) (from : NetAddr) : Type 0 where
  pub keyed : IsKeyed map
  pub start : IsSettledRow map (record { node = from; metric = 0; parent = from })
  pub led : (row : PathRow) → IsSettledRow map row → IsLedTo map arcs from row
  pub small : (row : PathRow) → IsSettledRow map row → row.metric + 4294967295 * missing_in map arcs ≤ 4294967295 * length arcs
