-- Packets without where their values lie in memory.
use Rattle.std.specs.Prelude.{ℕ, List, map, Option}
use Rattle.mesh_addr.specs.declared.records.RawAddr.{RawAddr}
use Rattle.mesh_tlv.specs.Fields.{TlvFields, AddrTlvFields, fields, addr_fields}
use Rattle.mesh_packet.specs.declared.packet.Block.{Block}
use Rattle.mesh_packet.specs.declared.packet.Message.{Message}
use Rattle.mesh_packet.specs.declared.packet.Packet.{Packet}
use Rattle.mesh_packet.specs.declared.packet.Span.{Span}
use Rattle.mesh_packet.specs.declared.packet.Decoded.{Decoded}

-- an address block and its TLVs
pub record BlockFields : Type 0 where
  pub width : ℕ
  pub addrs : List RawAddr
  pub tlvs : List AddrTlvFields

-- a message
pub record MessageFields : Type 0 where
  pub kind : ℕ
  pub width : ℕ
  pub originator : Option RawAddr
  pub limit : Option ℕ
  pub count : Option ℕ
  pub sequence : Option ℕ
  pub tlvs : List TlvFields
  pub blocks : List BlockFields

-- a packet
pub record PacketFields : Type 0 where
  pub sequence : Option ℕ
  pub tlvs : List TlvFields
  pub messages : List MessageFields

-- the fields of an address block and its TLVs
abbrev pub fields_of_block : Block → BlockFields
fields_of_block b = record { width = b.addrs.width; addrs = b.addrs.addrs; tlvs = map addr_fields b.tlvs }

-- the fields of a message
abbrev pub fields_of_message : Message → MessageFields
fields_of_message m = record {
  kind = m.kind;
  width = m.width;
  originator = m.originator;
  limit = m.limit;
  count = m.count;
  sequence = m.sequence;
  tlvs = map fields m.tlvs;
  blocks = map fields_of_block m.blocks;
}

-- the fields of a packet
abbrev pub fields_of_packet : Packet → PacketFields
fields_of_packet p = record { sequence = p.sequence; tlvs = map fields p.tlvs; messages = map fields_of_message p.messages }

-- the fields of a packet that was read, and the spans of its messages
abbrev pub fields_of_decoded : Decoded → PacketFields × List Span
fields_of_decoded d = (fields_of_packet d.packet, d.spans)

-- messages that were read and their spans, and the place after them
abbrev pub messages_read : (List Message × List Span) × ℕ → (List MessageFields × List Span) × ℕ
messages_read x = ((map fields_of_message x.0.0, x.0.1), x.1)
