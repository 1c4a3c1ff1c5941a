-- Addresses of the sender of a HELLO, row by row.
use Rattle.std.specs.Prelude.{◌≡◌, ◌⊎◌, List, Contains, Some}
use Rattle.mesh_atoms.specs.declared.addr.Addr4.{Addr4}
use Rattle.mesh_atoms.specs.declared.hello.HelloRow.{HelloRow}
use Rattle.mesh_atoms.specs.declared.hello.LocalIf.{LocalIf}
use Rattle.mesh_atoms.specs.Base.{host}

-- the row shows the address as one of the sender's interface of that kind
abbrev pub IsLocalAddress : HelloRow → LocalIf → Addr4 → Type 0
IsLocalAddress row local a = (row.addr ≡ host a) × (row.local ≡ Some local)

-- an address of the list, or the sender where the list has none
abbrev pub IsOrSender : List Addr4 → Addr4 → Addr4 → Type 0
IsOrSender addrs sender a = Contains addrs a ⊎ ((a ≡ sender) × ((b : Addr4) → Contains addrs b → ⊥))
