-- The walks of a graph, and the certificate of its least walks.
use Rattle.std.specs.Prelude.{◌≡◌, ℕ, ◌≤◌, ◌≢◌, List, Contains, length}
use Rattle.std.specs.List.{AllAdjacentBelow}
use Rattle.mesh_atoms.specs.declared.addr.NetAddr.{NetAddr}
use Rattle.mesh_atoms.specs.Walk.{Walk, Least, Fits}
use Rattle.mesh_atoms.specs.Nodes.{IsBefore, IsAtMost}
use Rattle.mesh_atoms.specs.declared.graphs.Arc4.{Arc4}
use Rattle.mesh_atoms.specs.declared.graphs.Graph.{Graph}
use Rattle.mesh_atoms.specs.declared.graphs.PathRow.{PathRow}
use Rattle.mesh_atoms.specs.declared.graphs.Certificate.{Certificate}

-- an arc of the graph, so that `Walk (InGraph g)` are its walks
abbrev pub InGraph : Graph → NetAddr → NetAddr → ℕ → Type 0
InGraph g a b m = (arc : Arc4) × Contains g.arcs arc × (arc.from ≡ a) × (arc.to ≡ b) × (arc.metric ≡ m)

-- no arc is free
abbrev pub HasCosts : Graph → Type 0
HasCosts g = (arc : Arc4) → Contains g.arcs arc → 1 ≤ arc.metric

-- the row of a node: its least metric, and the least node that may stand before it on a least walk. The start is its own parent
pub record IsPathRow (g : Graph) (from : NetAddr) (row : PathRow) : Type 0 where
  pub least : Least (InGraph g) from row.node row.metric
  pub start : row.node ≡ from → row.parent ≡ from
  pub fits : row.node ≢ from → Fits (InGraph g) from row.parent row.node
  pub least_parent : row.node ≢ from → (p : NetAddr) → Fits (InGraph g) from p row.node → IsAtMost row.parent p

-- each row stands before the next in the order of nodes
abbrev pub AreAscendingRows : List PathRow → Type 0
AreAscendingRows rows = AllAdjacentBelow (λ r t. IsBefore r.node t.node) rows (length rows)

-- one row for each node that a walk reaches, in ascending order
pub record IsCertificate (g : Graph) (from : NetAddr) (certificate : Certificate) : Type 0 where
  pub rows : (row : PathRow) → Contains certificate.rows row → IsPathRow g from row
  pub all : (node : NetAddr) (c : ℕ) → Walk (InGraph g) from node c → (row : PathRow) × Contains certificate.rows row × (row.node ≡ node)
  pub ascending : AreAscendingRows certificate.rows

-- a graph has one certificate from a node
abbrev pub IsOneCertificate : Type 0
IsOneCertificate = (g : Graph) (from : NetAddr) (c d : Certificate) → IsCertificate g from c → IsCertificate g from d → c.rows ≡ d.rows

-- a graph without free arcs has a certificate from each node
abbrev pub EveryGraphHasCertificate : Type 0
EveryGraphHasCertificate = (g : Graph) (from : NetAddr) → HasCosts g → (c : Certificate) × IsCertificate g from c
