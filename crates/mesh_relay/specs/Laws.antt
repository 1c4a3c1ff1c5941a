-- What covering says of the least costs.
use Rattle.std.specs.Prelude.{◌≡◌, ℕ, ◌↔◌, List, Contains, Option}
use Rattle.mesh_atoms.specs.declared.addr.Addr4.{Addr4}
use Rattle.mesh_atoms.specs.declared.graphs.Near.{Near}
use Rattle.mesh_atoms.specs.declared.graphs.Far.{Far}
use Rattle.mesh_atoms.specs.declared.graphs.NeighbourGraph.{NeighbourGraph}
use Rattle.mesh_atoms.specs.Relays.{IsDistance, HasSameDistance, IsWilling, IsRelay, Covers, HasDistinctIds}

-- the relays hold each neighbour of willingness 15 and willing ones alone, and by way of them each address that is two hops away has
-- the distance that it has by way of all willing neighbours
pub record KeepsDistances (g : NeighbourGraph) (relays : List Addr4) : Type 0 where
  pub always : (n : Near) → Contains g.near n → n.will ≡ 15 → Contains relays n.id
  pub willing : (id : Addr4) → Contains relays id → (n : Near) × Contains g.near n × (n.id ≡ id) × IsWilling n
  pub same : (f : Far) → Contains g.far f → HasSameDistance g (IsRelay relays) IsWilling f.addr

-- covering says that distances are kept, no less and no more
abbrev pub CoveringKeepsDistances : Type 0
CoveringKeepsDistances = (g : NeighbourGraph) (relays : List Addr4) → HasDistinctIds g → Covers g relays ↔ KeepsDistances g relays

-- by way of relays that cover, and by way of all willing neighbours, the two distances of an address two hops away are equal
abbrev pub CoveringGivesEqual : Type 0
CoveringGivesEqual = (g : NeighbourGraph) (relays : List Addr4) (f : Far) (a b : Option ℕ) → HasDistinctIds g → Covers g relays → Contains g.far f →
    IsDistance g (IsRelay relays) f.addr a → IsDistance g IsWilling f.addr b → a ≡ b
