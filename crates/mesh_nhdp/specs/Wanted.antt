-- Which neighbours' addresses are gathered.
use Rattle.std.specs.Prelude.{◌≡◌, ℕ, Contains, List, [], Option, Some, None, IsTrue}
use Rattle.mesh_atoms.specs.declared.addr.Addr4.{Addr4}
use Rattle.mesh_atoms.specs.declared.tuples.Neighbour.{Neighbour}
use Rattle.mesh_atoms.specs.Base.{Base, find, addr_eq}
use Rattle.mesh_atoms.specs.AfterHello.{Matches}
use Rattle.mesh_nhdp.specs.declared.near_addresses.WantedNeighbours.{WantedNeighbours}
use Rattle.mesh_nhdp.specs.declared.near_addresses.WantedNeighbours.TheVariants.{Each, Symmetric}
use Rattle.mesh_hello.specs.Saying.Said.{symmetric_addresses}

-- the neighbour is wanted
abbrev pub IsWanted : WantedNeighbours → Neighbour → Type 0
IsWanted Each n = Unit {0}
IsWanted Symmetric n = IsTrue n.symmetric

-- an address of the neighbour with that originator, which is wanted
abbrev pub IsWantedAt : Base Addr4 Neighbour → WantedNeighbours → Addr4 → Addr4 → Type 0
IsWantedAt neighbours wanted o a = (n : Neighbour) × (until : ℕ) × (find addr_eq neighbours o ≡ Some (n, until)) × IsWanted wanted n × Contains n.addrs a

-- an address of a neighbour that is wanted
abbrev pub IsWantedAddress : Base Addr4 Neighbour → WantedNeighbours → Addr4 → Type 0
IsWantedAddress neighbours wanted a =
    (o : Addr4) × (n : Neighbour) × (until : ℕ) × (find addr_eq neighbours o ≡ Some (n, until)) × IsWanted wanted n × Contains n.addrs a

-- an address of a neighbour that a HELLO with this originator and these addresses speaks of
abbrev pub IsSpokenAddress : Base Addr4 Neighbour → Addr4 → List Addr4 → Addr4 → Type 0
IsSpokenAddress neighbours told listed a =
    (o : Addr4) × (n : Neighbour) × (until : ℕ) × (find addr_eq neighbours o ≡ Some (n, until)) × Matches told listed o n × Contains n.addrs a

-- one of a symmetric neighbour
abbrev pub IsSymmetricSpokenAddress : Base Addr4 Neighbour → Addr4 → List Addr4 → Addr4 → Type 0
IsSymmetricSpokenAddress neighbours told listed a =
    (o : Addr4) × (n : Neighbour) × (until : ℕ) × (find addr_eq neighbours o ≡ Some (n, until)) × (IsTrue n.symmetric × Matches told listed o n) × Contains n.addrs a

-- the addresses of a neighbour that is symmetric; none where there is no neighbour
abbrev pub symmetric_at : Option (Neighbour × ℕ) → List Addr4
symmetric_at None = []
symmetric_at (Some e) = symmetric_addresses e.0
