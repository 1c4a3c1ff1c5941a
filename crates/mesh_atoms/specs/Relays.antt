-- Which sets of neighbours serve as relays (MPRs; RFC 7181, section 18).
use Rattle.std.specs.Prelude.{◌≡◌, ℕ, ◌+◌, ◌≤◌, ◌<◌, ◌⊎◌, ◌≢◌, ◌↔◌, List, Contains, Option, Some, None}
use Rattle.mesh_atoms.specs.declared.addr.Addr4.{Addr4}
use Rattle.mesh_atoms.specs.declared.graphs.Near.{Near}
use Rattle.mesh_atoms.specs.declared.graphs.Direct.{Direct}
use Rattle.mesh_atoms.specs.declared.graphs.Far.{Far}
use Rattle.mesh_atoms.specs.declared.graphs.NeighbourGraph.{NeighbourGraph}

-- the address y is offered at that cost: by a direct entry, or by way of a neighbour of the set (section 18.2)
abbrev pub Offers : NeighbourGraph → (Near → Type 0) → Addr4 → ℕ → Type 0
Offers g Among y c =
    ((d : Direct) × Contains g.direct d × (d.addr ≡ y) × (d.cost ≡ c))
    ⊎ ((n : Near) × Contains g.near n × Among n × (f : Far) × Contains g.far f × (f.via ≡ n.id) × (f.addr ≡ y) × (n.cost + f.cost ≡ c))

-- d(y, set) (section 18.3): the least cost at which y is offered, and none where it is not offered
abbrev pub IsDistance : NeighbourGraph → (Near → Type 0) → Addr4 → Option ℕ → Type 0
IsDistance g Among y None = (c : ℕ) → Offers g Among y c → ⊥
IsDistance g Among y (Some least) = Offers g Among y least × ((c : ℕ) → Offers g Among y c → least ≤ c)

-- a neighbour of willingness 0 never relays
abbrev pub IsWilling : Near → Type 0
IsWilling n = n.will ≢ 0

-- the neighbour is one of the relays
abbrev pub IsRelay : List Addr4 → Near → Type 0
IsRelay relays n = Contains relays n.id

-- the neighbour is one of the relays, but not that one
abbrev pub IsOtherRelay : List Addr4 → Addr4 → Near → Type 0
IsOtherRelay relays id n = Contains relays n.id × (n.id ≢ id)

-- by way of A, y is no dearer than by way of B
abbrev pub IsAsCheap : NeighbourGraph → (Near → Type 0) → (Near → Type 0) → Addr4 → Type 0
IsAsCheap g A B y = (c : ℕ) → Offers g B y c → (e : ℕ) × Offers g A y e × (e ≤ c)

-- d(y, A) = d(y, B)
abbrev pub HasSameDistance : NeighbourGraph → (Near → Type 0) → (Near → Type 0) → Addr4 → Type 0
HasSameDistance g A B y = IsAsCheap g A B y × IsAsCheap g B A y

-- the relays hold each neighbour of willingness 15 and willing ones alone, and no address that is two hops away becomes dearer by
-- way of them than by way of all willing neighbours (section 18.3); cheaper it can't become, since each of them is willing
pub record Covers (g : NeighbourGraph) (relays : List Addr4) : Type 0 where
  pub always : (n : Near) → Contains g.near n → n.will ≡ 15 → Contains relays n.id
  pub willing : (id : Addr4) → Contains relays id → (n : Near) × Contains g.near n × (n.id ≡ id) × IsWilling n
  pub as_cheap : (f : Far) (c : ℕ) → Contains g.far f → Offers g IsWilling f.addr c → (e : ℕ) × Offers g (IsRelay relays) f.addr e × (e ≤ c)

-- without that relay some address has another distance than by way of all willing neighbours
abbrev pub IsMissed : NeighbourGraph → List Addr4 → Addr4 → Type 0
IsMissed g relays id = (f : Far) × Contains g.far f × (HasSameDistance g (IsOtherRelay relays id) IsWilling f.addr → ⊥)

-- each relay that is a willing neighbour of willingness below 15 is missed where it alone is left out (the project's own rule)
pub record Needed (g : NeighbourGraph) (relays : List Addr4) : Type 0 where
  pub missed : (n : Near) → Contains g.near n → Contains relays n.id → IsWilling n → n.will < 15 → IsMissed g relays n.id

-- an id stands for one neighbour
abbrev pub HasDistinctIds : NeighbourGraph → Type 0
HasDistinctIds g = (m n : Near) → Contains g.near m → Contains g.near n → m.id ≡ n.id → m ≡ n

-- HasSameDistance says that the two distances are equal
abbrev pub DistancesTell : Type 0
DistancesTell = (g : NeighbourGraph) (relays : List Addr4) (id y : Addr4) (a b : Option ℕ) →
    IsDistance g (IsOtherRelay relays id) y a → IsDistance g IsWilling y b → (HasSameDistance g (IsOtherRelay relays id) IsWilling y ↔ (a ≡ b))
