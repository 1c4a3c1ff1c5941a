-- What rows of a HELLO say of the receiver.
use Rattle.std.specs.Prelude.{◌≡◌, List, Contains, Some, IsTrue}
use Rattle.mesh_atoms.specs.declared.addr.Addr4.{Addr4}
use Rattle.mesh_atoms.specs.declared.hello.Hello.{Hello}
use Rattle.mesh_atoms.specs.declared.hello.HelloRow.{HelloRow}
use Rattle.mesh_hello.specs.declared.told.mine.Sign.{Sign}
use Rattle.mesh_hello.specs.declared.told.mine.Sign.TheVariants.{Status, Flooding, Routing}

-- the row of one of these addresses
abbrev pub IsMyRow : List Addr4 → HelloRow → Type 0
IsMyRow own row = (row.addr.prefix ≡ 32) × Contains own row.addr.addr

-- the row says that of its address
abbrev pub Bears : Sign → HelloRow → Type 0
Bears (Status status) row = row.link ≡ Some status
Bears Flooding row = IsTrue row.mpr.flooding
Bears Routing row = IsTrue row.mpr.routing

-- a row says that of one of these addresses
abbrev pub TellsMine : Hello → List Addr4 → Sign → Type 0
TellsMine hello own sign = (row : HelloRow) × Contains hello.rows row × IsMyRow own row × Bears sign row
