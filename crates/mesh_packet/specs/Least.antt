-- Packets that can be encoded, and the least form in which they are written: each part only where it is there, a TLV block
-- in the packet's header only where it isn't empty, no reserved flag, and TLVs and address blocks in their least forms.
-- The order of messages, address blocks, addresses and TLVs stays.
use Rattle.std.specs.Prelude.{◌≡◌, ℕ, ◌+◌, ◌*◌, ◌-◌, ◌<◌, ◌≤◌, List, [], ◌∷◌, ◌++◌, length, take, Option, Some, None, Bool, true, false, All}
use Rattle.std.specs.Option.{is_some}
use Rattle.mesh_atoms.specs.declared.limits.TheConstants.{LONGEST_DATAGRAM}
use Rattle.mesh_addr.specs.declared.records.RawAddr.{RawAddr}
use Rattle.mesh_addr.specs.Grammar.{padded, IsWritable}
use Rattle.mesh_addr.specs.Least.{IsLeast}
use Rattle.mesh_tlv.specs.declared.tlv.WriteTlv.{WriteTlv}
use Rattle.mesh_tlv.specs.declared.tlv.WriteTlv.TheVariants as tlvs
use Rattle.mesh_tlv.specs.Fields.{TlvFields}
use Rattle.mesh_tlv.specs.Items.{SpellsItems}
use Rattle.mesh_tlv.specs.Least.{IsFit, flag, least_short, least_tlv, least_addr_tlv, least_block}
use Rattle.mesh_packet.specs.declared.packet.EncodeFault.{EncodeFault}
use Rattle.mesh_packet.specs.declared.packet.EncodeFault.TheVariants as faults
use Rattle.mesh_packet.specs.Fields.{BlockFields, MessageFields, PacketFields}

-- ---- which packets can be encoded

-- an originator has zeros behind its octets, and all its bits as prefix
abbrev pub IsPaddedOriginator : ℕ → Option RawAddr → Type 0
IsPaddedOriginator width None = Unit {0}
IsPaddedOriginator width (Some a) = (a.octets ≡ padded (take width a.octets)) × (a.prefix ≡ 8 * width)

-- 1 to 255 addresses of that width, and TLVs that cover addresses of the block
pub record IsEncodableBlock (width : ℕ) (block : BlockFields) : Type 0 where
  pub width_is : block.width ≡ width
  pub addrs : IsWritable width block.addrs
  pub tlvs : All (IsFit (length block.addrs)) block.tlvs

-- addresses of 1 to 16 octets, the same number in the originator and all blocks
pub record IsEncodableMessage (message : MessageFields) : Type 0 where
  pub wide : 0 < message.width
  pub narrow : message.width ≤ 16
  pub originator : IsPaddedOriginator message.width message.originator
  pub blocks : All (IsEncodableBlock message.width) message.blocks

-- each message can be encoded
pub record IsEncodable (packet : PacketFields) : Type 0 where
  pub messages : All IsEncodableMessage packet.messages

-- ---- the least form

-- an octet, where it is there
abbrev pub least_octet : Option ℕ → List ℕ
least_octet None = []
least_octet (Some n) = n ∷ []

-- a number of 16 bits, where it is there
abbrev pub least_number : Option ℕ → List ℕ
least_number None = []
least_number (Some n) = least_short n

-- the octets of an originator, where it is there
abbrev pub least_originator : ℕ → Option RawAddr → List ℕ
least_originator width None = []
least_originator width (Some a) = take width a.octets

-- what a message has before its TLVs
unfoldable pub least_head : MessageFields → List ℕ
least_head m = least_originator m.width m.originator ++ (least_octet m.limit ++ (least_octet m.count ++ least_number m.sequence))

-- the flags of a message: which optional parts are there, and the width
unfoldable pub message_flags : MessageFields → ℕ
message_flags m =
    flag (is_some m.originator) 128 + flag (is_some m.limit) 64 + flag (is_some m.count) 32 + flag (is_some m.sequence) 16 + (m.width - 1)

-- an address block in the fewest octets, and the TLV block of its addresses
pub record LeastPair (block : BlockFields) (bytes : List ℕ) : Type 0 where
  pub addrs : List ℕ
  pub addrs_is : IsLeast block.width block.addrs addrs
  pub whole : bytes ≡ addrs ++ least_block (least_addr_tlv (length block.addrs)) block.tlvs

-- what stands in a message behind its size
pub record LeastBody (message : MessageFields) (bytes : List ℕ) : Type 0 where
  pub blocks : List ℕ
  pub blocks_is : SpellsItems LeastPair message.blocks blocks
  pub whole : bytes ≡ least_head message ++ (least_block least_tlv message.tlvs ++ blocks)

-- a message: its type, its flags, the size of all of it, and the rest
pub record LeastMessage (message : MessageFields) (bytes : List ℕ) : Type 0 where
  pub body : List ℕ
  pub body_is : LeastBody message body
  pub whole : bytes ≡ message.kind ∷ (message_flags message ∷ (least_short (4 + length body) ++ body))

-- whether there are TLVs
abbrev pub has_tlvs : List TlvFields → Bool
has_tlvs [] = false
has_tlvs (t ∷ ts) = true

-- the TLV block of a packet's header, where it isn't empty
abbrev pub least_header_tlvs : List TlvFields → List ℕ
least_header_tlvs [] = []
least_header_tlvs (t ∷ ts) = least_block least_tlv (t ∷ ts)

-- the first octet of a packet: version 0, and which optional parts are there
abbrev pub packet_flags : PacketFields → ℕ
packet_flags p = flag (is_some p.sequence) 8 + flag (has_tlvs p.tlvs) 4

-- The least form of a packet. Its length fields are defined above 65,535 too (their high number is then no octet), so that a
-- packet that is too long has a least form as well.
pub record LeastForm (packet : PacketFields) (bytes : List ℕ) : Type 0 where
  pub messages : List ℕ
  pub messages_is : SpellsItems LeastMessage packet.messages messages
  pub whole : bytes ≡ packet_flags packet ∷ (least_number packet.sequence ++ (least_header_tlvs packet.tlvs ++ messages))

-- The packet has a least form of more than 65,507 octets, the most that a datagram of UDP over IPv4 takes. So it is where a
-- message, a TLV block or a value has more than 65,535. A packet has one least form.
abbrev pub IsTooLong : PacketFields → Type 0
IsTooLong packet = (bytes : List ℕ) × LeastForm packet bytes × (LONGEST_DATAGRAM < length bytes)

-- ---- words of the writers

-- each text of this kind, behind so many octets, passes 65,507
abbrev pub Passes : (List ℕ → Type 0) → ℕ → Type 0
Passes Least before = (text : List ℕ) → Least text → LONGEST_DATAGRAM < before + length text

-- a text of this kind was put behind the old octets
abbrev pub Wrote : (List ℕ → Type 0) → List ℕ → List ℕ → Type 0
Wrote Least old new = (text : List ℕ) × (new ≡ old ++ text) × Least text

-- a fault of writing TLVs, as one of writing a packet
abbrev pub as_encode_fault : WriteTlv → EncodeFault
as_encode_fault tlvs.TooLong = faults.TooLong
as_encode_fault (tlvs.Memory e) = faults.Memory e
