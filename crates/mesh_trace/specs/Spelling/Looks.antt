-- What a reading looks at, and a message that says a HELLO or a TC and nothing else.
use Rattle.std.specs.Prelude.{◌≡◌, ℕ, ◌≤◌, ◌⊎◌, List, [], ◌∷◌, Contains, Some, None, IsSome, slice_get}
use Rattle.mesh_atoms.specs.declared.addr.NetAddr.{NetAddr}
use Rattle.mesh_atoms.specs.declared.hello.Hello.{Hello}
use Rattle.mesh_atoms.specs.declared.hello.HelloRow.{HelloRow}
use Rattle.mesh_atoms.specs.declared.tc.Tc.{Tc}
use Rattle.mesh_addr.specs.declared.records.RawAddr.{RawAddr}
use Rattle.mesh_packet.specs.Fields.{MessageFields}
use Rattle.mesh_tlv.specs.Fields.{TlvFields, AddrTlvFields}
use Rattle.mesh_wire.specs.Hello.{HelloIs}
use Rattle.mesh_wire.specs.HelloRules.{BreaksHello}
use Rattle.mesh_atoms.specs.declared.tlv_type.TheConstants.{VALIDITY_TIME, LOCAL_IF, NBR_ADDR_TYPE, GATEWAY, LINK_METRIC}
use Rattle.mesh_wire.specs.Metrics.{Near_out}
use Rattle.mesh_wire.specs.Parts.{IsIn, octets_of, part_at, values_of}
use Rattle.mesh_wire.specs.Rows.{HasPart}
use Rattle.mesh_wire.specs.Rules.{Keeps}
use Rattle.mesh_wire.specs.Tc.{TcIs}
use Rattle.mesh_wire.specs.TcRules.{BreaksTc}
use Rattle.mesh_wire.specs.Writes.{HasFlag, IsReadOfHello, IsReadOfOther, IsReadOfHelloAddress, IsReadOfTc, IsReadOfTcAddress}

-- of an address, by type, extension and octets
abbrev pub Saying : Type 1
Saying = NetAddr → ℕ → ℕ → List ℕ → Type 0

-- a part of an address is such
abbrev pub IsSaying : Saying → NetAddr → TlvFields → Type 0
IsSaying P net part = P net part.kind part.ext (octets_of part.value)

-- all that a TLV says of the addresses of its block is such
abbrev pub SaysOnly : Saying → List RawAddr → AddrTlvFields → Type 0
SaysOnly P addrs tlv =
    (place : ℕ) (a : RawAddr) (net : NetAddr) → tlv.first ≤ place → place ≤ tlv.last → slice_get addrs place ≡ Some a → IsIn a net →
    IsSaying P net (part_at tlv place)

-- all that is said of addresses of the message is such
abbrev pub TellsOnly : Saying → MessageFields → Type 0
TellsOnly P message = (net : NetAddr) (part : TlvFields) → HasPart message net part → IsSaying P net part

-- the rows show the address as one of the sender's
abbrev pub IsLocal : List HelloRow → NetAddr → Type 0
IsLocal rows net = (row : HelloRow) × Contains rows row × (row.addr ≡ net) × IsSome row.local

-- a reading of a HELLO that gave these rows looks at it
abbrev pub LooksHello : List HelloRow → Saying
LooksHello rows net kind ext octets = (ext ≡ 0) × ((kind ≡ LOCAL_IF) ⊎ ((IsLocal rows net → ⊥) × IsReadOfOther kind octets))

-- a reading of a TC looks at it
abbrev pub LooksTc : Saying
LooksTc net kind ext octets = (ext ≡ 0) × ((kind ≡ NBR_ADDR_TYPE) ⊎ ((kind ≡ GATEWAY) ⊎ ((kind ≡ LINK_METRIC) × HasFlag Near_out octets)))

-- the message has the header of a HELLO that is sent
pub record HasHelloHeader (message : MessageFields) : Type 0 where
  pub kind : message.kind ≡ 0
  pub limit : message.limit ≡ None
  pub count : message.count ≡ None
  pub sequence : message.sequence ≡ None

-- the message says the HELLO, and nothing that a reading ignores
pub record SaysHello (hello : Hello) (message : MessageFields) : Type 0 where
  pub header : HasHelloHeader message
  pub reads : HelloIs message hello
  pub keeps : Keeps (BreaksHello message)
  pub tlvs : (tlv : TlvFields) → Contains message.tlvs tlv → IsReadOfHello tlv
  pub parts : (net : NetAddr) (part : TlvFields) → HasPart message net part → IsReadOfHelloAddress message net part

-- the message has the header of a TC that is sent with that hop limit
pub record HasTcHeader (message : MessageFields) (hop_limit : ℕ) : Type 0 where
  pub kind : message.kind ≡ 1
  pub limit : message.limit ≡ Some hop_limit
  pub count : message.count ≡ Some 0

-- the message says the TC with that value of VALIDITY_TIME, and nothing that a reading ignores
pub record SaysTc (tc : Tc) (hop_limit : ℕ) (validity : List ℕ) (message : MessageFields) : Type 0 where
  pub header : HasTcHeader message hop_limit
  pub reads : TcIs message tc
  pub validity_is : values_of VALIDITY_TIME message ≡ validity ∷ []
  pub keeps : Keeps (BreaksTc message)
  pub tlvs : (tlv : TlvFields) → Contains message.tlvs tlv → IsReadOfTc tlv
  pub parts : (net : NetAddr) (part : TlvFields) → HasPart message net part → IsReadOfTcAddress part
