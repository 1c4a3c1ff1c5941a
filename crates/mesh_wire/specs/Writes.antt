-- What may be sent for a HELLO and for a TC, and what is written for them.
use Rattle.std.specs.Prelude.{◌≡◌, ℕ, ◌<◌, ◌≤◌, ◌⊎◌, List, [], ◌∷◌, length, slice_index, Contains, Option, Some, None, true}
use Rattle.mesh_atoms.specs.declared.addr.NetAddr.{NetAddr}
use Rattle.mesh_atoms.specs.declared.hello.Hello.{Hello}
use Rattle.mesh_atoms.specs.declared.tc.Tc.{Tc}
use Rattle.mesh_atoms.specs.Codes.Codes.{time_value}
use Rattle.mesh_atoms.specs.Reading.{has}
use Rattle.mesh_addr.specs.Grammar.{SpellsBlock}
use Rattle.mesh_packet.specs.declared.packet.Span.{Span}
use Rattle.mesh_packet.specs.Fields.{BlockFields, MessageFields, PacketFields}
use Rattle.mesh_packet.specs.Grammar.{Spells, SpellsMessage, SpellsPair, width_of}
use Rattle.mesh_packet.specs.Least.{LeastForm}
use Rattle.mesh_tlv.specs.Fields.{TlvFields}
use Rattle.mesh_tlv.specs.Items.{SpellsItems}
use Rattle.mesh_wire.specs.Hello.{HelloIs}
use Rattle.mesh_wire.specs.HelloRules.{BreaksHello}
use Rattle.mesh_atoms.specs.declared.tlv_type.TheConstants.{INTERVAL_TIME, VALIDITY_TIME, MPR_WILLING, CONT_SEQ_NUM, LOCAL_IF, LINK_METRIC, MPR, NBR_ADDR_TYPE, GATEWAY}
use Rattle.mesh_wire.specs.Metrics.{MetricKind, Near_out, flag_of}
use Rattle.mesh_wire.specs.declared.octets.OctetKind.TheVariants.{Mpr}
use Rattle.mesh_wire.specs.OctetKinds.{IsStatusType, IsOctetOf}
use Rattle.mesh_wire.specs.Parts.{octets_of, values_of}
use Rattle.mesh_wire.specs.Rows.{HasType, HasPart}
use Rattle.mesh_wire.specs.Rules.{Keeps}
use Rattle.mesh_wire.specs.Tc.{TcIs}
use Rattle.mesh_wire.specs.TcRules.{BreaksTc}

-- ---- a message alone

-- a packet of that message alone, with no sequence number and no TLVs of its own (RFC 5444, section 5.1)
abbrev pub alone : MessageFields → PacketFields
alone message = record { sequence = None; tlvs = []; messages = message ∷ [] }

-- an address block in the fewest octets, and its TLV block in any way
pub record SpellsBriefly (width : ℕ) (block : BlockFields) (bytes : List ℕ) : Type 0 where
  pub pair : SpellsPair width block bytes
  pub fewest : (other : List ℕ) → SpellsBlock width block.addrs other → length pair.addrs ≤ length other

-- so is each address block of the message
abbrev pub HasBriefBlocks : {message : MessageFields} {bytes : List ℕ} → SpellsMessage message bytes → Type 0
HasBriefBlocks {message} spelled = SpellsItems (SpellsBriefly (width_of spelled.flags)) message.blocks spelled.body_is.blocks

-- The octets spell a packet of that message alone, each address block in the fewest octets. All else of the spelling is free.
pub record IsSoleMessage (message : MessageFields) (bytes : List ℕ) : Type 0 where
  pub octets : (i : ℕ) → slice_index bytes i < 256
  pub span : Span
  pub spelled : Spells (alone message) (span ∷ []) bytes
  pub brief : HasBriefBlocks spelled.messages_is.2

-- ---- what may be sent

-- a reading of a HELLO looks at the message TLV
pub record IsReadOfHello (tlv : TlvFields) : Type 0 where
  pub kind : (tlv.kind ≡ VALIDITY_TIME) ⊎ ((tlv.kind ≡ INTERVAL_TIME) ⊎ (tlv.kind ≡ MPR_WILLING))
  pub ext : tlv.ext ≡ 0

-- a LINK_METRIC has the flag of that kind
abbrev pub HasFlag : MetricKind → List ℕ → Type 0
HasFlag kind octets = (high : ℕ) × (low : ℕ) × (octets ≡ high ∷ low ∷ []) × (has high (flag_of kind) ≡ true)

-- a reading of a HELLO looks at what is said of an address that isn't the sender's
abbrev pub IsReadOfOther : ℕ → List ℕ → Type 0
IsReadOfOther kind octets =
    IsStatusType kind ⊎ (((kind ≡ MPR) × IsOctetOf Mpr octets) ⊎ ((kind ≡ LINK_METRIC) × ((metric : MetricKind) × HasFlag metric octets)))

-- a reading of a HELLO looks at what an address TLV says of an address; of an address of the sender's only at LOCAL_IF
pub record IsReadOfHelloAddress (message : MessageFields) (net : NetAddr) (part : TlvFields) : Type 0 where
  pub kind : (part.kind ≡ LOCAL_IF) ⊎ ((HasType message net LOCAL_IF → ⊥) × IsReadOfOther part.kind (octets_of part.value))
  pub ext : part.ext ≡ 0

-- The octets are a packet of one message alone, which reads as the HELLO, breaks no rule, and has nothing that the reading
-- ignores (RFC 6130, section 10, and RFC 7181, section 15).
pub record WritesHello (hello : Hello) (bytes : List ℕ) : Type 0 where
  pub message : MessageFields
  pub packet : IsSoleMessage message bytes
  pub kind : message.kind ≡ 0
  pub limit : message.limit ≡ None
  pub count : message.count ≡ None
  pub sequence : message.sequence ≡ None
  pub reads : HelloIs message hello
  pub keeps : Keeps (BreaksHello message)
  pub tlvs : (tlv : TlvFields) → Contains message.tlvs tlv → IsReadOfHello tlv
  pub parts : (net : NetAddr) (part : TlvFields) → HasPart message net part → IsReadOfHelloAddress message net part

-- a reading of a TC looks at the message TLV
abbrev pub IsReadOfTc : TlvFields → Type 0
IsReadOfTc tlv =
    (((tlv.kind ≡ VALIDITY_TIME) ⊎ (tlv.kind ≡ INTERVAL_TIME)) × (tlv.ext ≡ 0)) ⊎ ((tlv.kind ≡ CONT_SEQ_NUM) × (tlv.ext ≤ 1))

-- a reading of a TC looks at what an address TLV says of an address
pub record IsReadOfTcAddress (part : TlvFields) : Type 0 where
  pub kind : (part.kind ≡ NBR_ADDR_TYPE) ⊎ ((part.kind ≡ GATEWAY) ⊎ ((part.kind ≡ LINK_METRIC) × HasFlag Near_out (octets_of part.value)))
  pub ext : part.ext ≡ 0

-- The octets are a packet of one message alone with that hop limit and that value of VALIDITY_TIME, which has come no hop, reads as
-- the TC, breaks no rule, and has nothing that the reading ignores (RFC 7181, section 16).
pub record WritesTc (tc : Tc) (hop_limit : ℕ) (validity : List ℕ) (bytes : List ℕ) : Type 0 where
  pub message : MessageFields
  pub packet : IsSoleMessage message bytes
  pub kind : message.kind ≡ 1
  pub limit : message.limit ≡ Some hop_limit
  pub count : message.count ≡ Some 0
  pub reads : TcIs message tc
  pub validity_is : values_of VALIDITY_TIME message ≡ validity ∷ []
  pub keeps : Keeps (BreaksTc message)
  pub tlvs : (tlv : TlvFields) → Contains message.tlvs tlv → IsReadOfTc tlv
  pub parts : (net : NetAddr) (part : TlvFields) → HasPart message net part → IsReadOfTcAddress part

-- ---- what this project's writers write: of all that may be sent, the least form

-- the message has one TLV of that type, which is no more than the code of that time: it tells the time at every distance
abbrev pub HasCode : MessageFields → ℕ → ℕ → Type 0
HasCode message kind ticks = (code : ℕ) × (values_of kind message ≡ (code ∷ []) ∷ []) × (time_value code ≡ ticks)

-- such a TLV of the interval, where there is one
abbrev pub HasInterval : MessageFields → Option ℕ → Type 0
HasInterval message interval = (ticks : ℕ) → interval ≡ Some ticks → HasCode message INTERVAL_TIME ticks

-- the octets may be sent for the HELLO, and are the least form of their packet; each time is one code
pub record WritesLeastHello (hello : Hello) (bytes : List ℕ) : Type 0 where
  pub writes : WritesHello hello bytes
  pub least : LeastForm (alone writes.message) bytes
  pub validity_is : HasCode writes.message VALIDITY_TIME hello.validity
  pub interval_is : HasInterval writes.message hello.interval

-- the octets may be sent for the TC, and are the least form of their packet; the interval is one code
pub record WritesLeastTc (tc : Tc) (hop_limit : ℕ) (validity : List ℕ) (bytes : List ℕ) : Type 0 where
  pub writes : WritesTc tc hop_limit validity bytes
  pub least : LeastForm (alone writes.message) bytes
  pub interval_is : HasInterval writes.message tc.interval

-- ---- what is read of it

-- whatever the octets spell is a packet of one message of that type, which reads as this value only
pub record ReadsBack {X : Type 0} (kind : ℕ) (Is : MessageFields → X → Type 0) (Breaks : MessageFields → ℕ → Option NetAddr → Type 0) (value : X) (packet : PacketFields) : Type 0 where
  pub message : MessageFields
  pub one : packet.messages ≡ message ∷ []
  pub of_type : message.kind ≡ kind
  pub keeps : Keeps (Breaks message)
  pub same : (other : X) → Is message other → other ≡ value
