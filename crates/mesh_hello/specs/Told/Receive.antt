-- What a HELLO tells of its sender's own addresses.
use Rattle.std.specs.Prelude.{◌≡◌, ◌⊎◌, List, Contains, Any, Some}
use Rattle.mesh_atoms.specs.declared.addr.Addr4.{Addr4}
use Rattle.mesh_atoms.specs.declared.hello.LocalIf.{LocalIf}
use Rattle.mesh_atoms.specs.declared.hello.LocalIf.TheVariants.{This}
use Rattle.mesh_atoms.specs.declared.hello.HelloRow.{HelloRow}
use Rattle.mesh_atoms.specs.declared.hello.Hello.{Hello}
use Rattle.mesh_atoms.specs.Base.{host}
use Rattle.mesh_atoms.specs.HelloTold.{TellsLocal}

-- the row is of that host, and tells it as one of the sender's interfaces
pub record IsLocalRow (row : HelloRow) (a : Addr4) (local : LocalIf) : Type 0 where
  pub addr : row.addr ≡ host a
  pub told : row.local ≡ Some local

-- the row tells an address with the property as one of the sender's
pub record IsLocalWith (P : Addr4 → Type 0) (row : HelloRow) : Type 0 where
  pub addr : Addr4
  pub local : LocalIf
  pub told : IsLocalRow row addr local
  pub has : P addr

-- the originator is one of the addresses
pub record HasOriginatorOf (own : List Addr4) (hello : Hello) : Type 0 where
  pub addr : Addr4
  pub is : hello.originator ≡ Some addr
  pub has : Contains own addr

-- the sender is one of the addresses, and the HELLO tells no address of its interface
pub record IsBareSender (own : List Addr4) (sender : Addr4) (hello : Hello) : Type 0 where
  pub has : Contains own sender
  pub none : (a : Addr4) → TellsLocal hello a This → ⊥

-- the HELLO names one of these addresses as its sender's (RFC 6130, section 12.1)
abbrev pub NamesAsSender : List Addr4 → Addr4 → Hello → Type 0
NamesAsSender own sender hello = Any (IsLocalWith (Contains own)) hello.rows ⊎ (HasOriginatorOf own hello ⊎ IsBareSender own sender hello)
