-- Rows of a HELLO that tell of the sender's neighbours.
use Rattle.std.specs.Prelude.{◌≡◌, ℕ, ◌⊎◌, List, Contains, IsSome, IsTrue}
use Rattle.mesh_atoms.specs.declared.addr.Addr4.{Addr4}
use Rattle.mesh_atoms.specs.declared.hello.HelloRow.{HelloRow}
use Rattle.mesh_atoms.specs.declared.tuples.LinkKey.{LinkKey}
use Rattle.mesh_atoms.specs.declared.tuples.TwoHopKey.{TwoHopKey}
use Rattle.mesh_atoms.specs.declared.tuples.TwoHop.{TwoHop}
use Rattle.mesh_atoms.specs.Base.{Base, SetsOnly, two_hop_eq}
use Rattle.mesh_atoms.specs.HelloTold.{tells_symmetric}
use Rattle.mesh_atoms.specs.AfterHello.{row_makes}

-- the row of a host's address, which is neither one of the receiver's nor a listed one, with a LINK_STATUS or OTHER_NEIGHB
abbrev pub LooksOn : List Addr4 → List Addr4 → HelloRow → Type 0
LooksOn own listed row = (row.addr.prefix ≡ 32) × (IsSome row.link ⊎ IsSome row.other) × (Contains own row.addr.addr → ⊥) × (Contains listed row.addr.addr → ⊥)

-- one that says SYMMETRIC, of that address
abbrev pub TellsSymmetric : List Addr4 → List Addr4 → HelloRow → Addr4 → Type 0
TellsSymmetric own listed row a = LooksOn own listed row × IsTrue (tells_symmetric row.link row.other) × (row.addr.addr ≡ a)

-- what the row makes of the tuples of the link
pub data RowTells (own listed : List Addr4) (link : LinkKey) (until : ℕ) (row : HelloRow) (old new : Base TwoHopKey TwoHop) : Type 0 where
  Looked : LooksOn own listed row → SetsOnly two_hop_eq old new (record { link = link; addr = row.addr.addr }) (row_makes until row) →
      RowTells own listed link until row old new
  Passed : (LooksOn own listed row → ⊥) → new ≡ old → RowTells own listed link until row old new
