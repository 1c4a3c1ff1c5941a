-- What becomes of the lost addresses.
use Rattle.std.specs.Prelude.{ℕ, List, Contains}
use Rattle.mesh_atoms.specs.declared.addr.Addr4.{Addr4}
use Rattle.mesh_atoms.specs.declared.tuples.Lost.{Lost}
use Rattle.mesh_atoms.specs.Base.{Base, find, addr_eq}
use Rattle.mesh_atoms.specs.Live.{SettlesLost}

-- each address, by whether it was and is a symmetric neighbour's (RFC 6130, sections 8.2 and 12.4)
abbrev pub SettlesAll : List Addr4 → List Addr4 → ℕ → Base Addr4 Lost → Base Addr4 Lost → Type 0
SettlesAll before after until old new = (a : Addr4) → SettlesLost (Contains before a) (Contains after a) until (find addr_eq old a) (find addr_eq new a)
