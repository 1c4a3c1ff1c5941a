-- What can be seen of a certificate from its rows and the arcs alone, without walks.
use Rattle.std.specs.Prelude.{◌≡◌, ℕ, ◌+◌, ◌<◌, ◌⊎◌, List, Contains}
use Rattle.mesh_atoms.specs.declared.addr.NetAddr.{NetAddr}
use Rattle.mesh_atoms.specs.Nodes.{IsAtMost}
use Rattle.mesh_atoms.specs.declared.graphs.Arc4.{Arc4}
use Rattle.mesh_atoms.specs.declared.graphs.PathRow.{PathRow}
use Rattle.mesh_paths.specs.Paths.{AreAscendingRows}

-- what the start offers itself
abbrev pub IsStart : NetAddr → NetAddr → ℕ → NetAddr → Type 0
IsStart from node metric parent = (from ≡ node) × (0 ≡ metric) × (from ≡ parent)

-- the start, or the end of an arc from a row's node: a node, at a metric, with a parent
abbrev pub OffersBy : (PathRow → Type 0) → List Arc4 → NetAddr → NetAddr → ℕ → NetAddr → Type 0
OffersBy Has arcs from node metric parent =
    IsStart from node metric parent
    ⊎ ((row : PathRow) × (arc : Arc4) × Has row × Contains arcs arc × (arc.from ≡ row.node)
    × (arc.to ≡ node) × (row.metric + arc.metric ≡ metric) × (row.node ≡ parent))

-- what the start and the rows offer
abbrev pub OffersTo : List Arc4 → NetAddr → List PathRow → NetAddr → ℕ → NetAddr → Type 0
OffersTo arcs from rows = OffersBy (Contains rows) arcs from

-- a lesser metric, or the same and a parent that is no greater
abbrev pub IsAsGood : PathRow → ℕ → NetAddr → Type 0
IsAsGood row metric parent = (row.metric < metric) ⊎ ((row.metric ≡ metric) × IsAtMost row.parent parent)

-- a row of the node is as good
abbrev pub MeetsBy : (PathRow → Type 0) → NetAddr → ℕ → NetAddr → Type 0
MeetsBy Has node metric parent = (row : PathRow) × Has row × (row.node ≡ node) × IsAsGood row metric parent

-- one of the rows is as good
abbrev pub MeetsRow : List PathRow → NetAddr → ℕ → NetAddr → Type 0
MeetsRow rows = MeetsBy (Contains rows)

-- what the arc offers is met
abbrev pub IsArcMet : List PathRow → Arc4 → Type 0
IsArcMet rows arc = (row : PathRow) → Contains rows row → row.node ≡ arc.from → MeetsRow rows arc.to (row.metric + arc.metric) row.node

-- the arc from the parent's node offers the row
abbrev pub IsStep : PathRow → PathRow → Arc4 → Type 0
IsStep parent row arc = (arc.from ≡ parent.node) × (arc.to ≡ row.node) × (parent.metric + arc.metric ≡ row.metric)

-- some arc from the row of its parent offers the row
abbrev pub IsReached : List Arc4 → List PathRow → PathRow → Type 0
IsReached arcs rows row =
    (parent : PathRow) × Contains rows parent × (parent.node ≡ row.parent)
    × ((arc : Arc4) × Contains arcs arc × IsStep parent row arc)

-- the row is offered
abbrev pub IsOffered : List Arc4 → NetAddr → List PathRow → PathRow → Type 0
IsOffered arcs from rows row = OffersTo arcs from rows row.node row.metric row.parent

-- what is offered is met
abbrev pub IsClosed : List Arc4 → NetAddr → List PathRow → Type 0
IsClosed arcs from rows = (node : NetAddr) (metric : ℕ) (parent : NetAddr) → OffersTo arcs from rows node metric parent → MeetsRow rows node metric parent

-- each row is offered
abbrev pub IsGrounded : List Arc4 → NetAddr → List PathRow → Type 0
IsGrounded arcs from rows = (row : PathRow) → Contains rows row → IsOffered arcs from rows row

-- ascending rows that hold what is offered, at its best, and nothing else
pub record IsTree (arcs : List Arc4) (from : NetAddr) (rows : List PathRow) : Type 0 where
  pub ascending : AreAscendingRows rows
  pub closed : IsClosed arcs from rows
  pub grounded : IsGrounded arcs from rows
