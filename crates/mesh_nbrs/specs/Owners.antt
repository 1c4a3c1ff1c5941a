-- Which neighbour has an address.
use Rattle.std.specs.Prelude.{◌≡◌, ◌↔◌, Bool, false, ℕ, List, Contains, Option, Some, None, option_map, cond}
use Rattle.std.specs.List.{list_any}
use Rattle.std.specs.Map.{lookup}
use Rattle.mesh_atoms.specs.declared.addr.Addr4.{Addr4}
use Rattle.mesh_atoms.specs.declared.tuples.Neighbour.{Neighbour}
use Rattle.mesh_atoms.specs.Base.{Base, find, addr_eq}

-- the originator that is noted for an address
abbrev pub owner_of : List (Addr4 × Addr4) → Addr4 → Option Addr4
owner_of owners a = lookup (addr_eq a) owners

-- whether the noted originator is that one
abbrev pub is_owner : Option Addr4 → Addr4 → Bool
is_owner None o = false
is_owner (Some p) o = addr_eq p o

-- the addresses of the neighbour with that originator
abbrev pub addrs_at : Base Addr4 Neighbour → Addr4 → Option (List Addr4)
addrs_at base o = option_map (λ (e : Neighbour × ℕ). e.0.addrs) (find addr_eq base o)

-- the neighbour with that originator has the address
abbrev pub HasAt : Base Addr4 Neighbour → Addr4 → Addr4 → Type 0
HasAt base o a = (addrs : List Addr4) × (addrs_at base o ≡ Some addrs) × Contains addrs a

-- an address has an originator noted exactly where the neighbour with that originator has the address
abbrev pub Owned : List (Addr4 × Addr4) → Base Addr4 Neighbour → Type 0
Owned owners base = (a o : Addr4) → (owner_of owners a ≡ Some o) ↔ HasAt base o a

-- each neighbour has the addresses that it had
abbrev pub KeepsAddrs : Base Addr4 Neighbour → Base Addr4 Neighbour → Type 0
KeepsAddrs old new = (o : Addr4) → addrs_at new o ≡ addrs_at old o

-- the notes of those originators stay, and all others go
abbrev pub LeavesNotesOf : (Addr4 → Type 0) → List (Addr4 × Addr4) → List (Addr4 × Addr4) → Type 0
LeavesNotesOf Stays old new = (a o : Addr4) → (owner_of new a ≡ Some o) ↔ ((owner_of old a ≡ Some o) × Stays o)

-- these addresses have this noted, and each other one what it had
abbrev pub SetsOwner : List Addr4 → Option Addr4 → List (Addr4 × Addr4) → List (Addr4 × Addr4) → Type 0
SetsOwner addrs owner old new = (a : Addr4) → owner_of new a ≡ cond (list_any (λ x. addr_eq x a) addrs) owner (owner_of old a)
