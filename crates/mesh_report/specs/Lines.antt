-- The lines of a packet's listing, each by its form.
use Rattle.std.specs.Prelude.{ℕ, List, ◌++◌, length, codes}
use Rattle.mesh_atoms.specs.declared.refusal.Refusal.{Refusal}
use Rattle.mesh_addr.specs.declared.records.RawAddr.{RawAddr}
use Rattle.mesh_tlv.specs.Fields.{TlvFields, AddrTlvFields}
use Rattle.mesh_packet.specs.Fields.{BlockFields, MessageFields, PacketFields}
use Rattle.mesh_report.specs.Pieces.{numbered, numbered_or_none, addressed, addressed_or_none, valued, chosen, named}

-- the packet of the line of this number
unfoldable pub packet_line : ℕ → PacketFields → List ℕ
packet_line number packet =
    numbered (codes "line ") number ++ numbered_or_none (codes " packet sequence ") packet.sequence
    ++ (numbered (codes " tlvs ") (length packet.tlvs) ++ numbered (codes " messages ") (length packet.messages) ++ codes "\n")

-- a TLV of a packet or a message
unfoldable pub tlv_line : TlvFields → List ℕ
tlv_line tlv = numbered (codes "  tlv ") tlv.kind ++ numbered (codes " extension ") tlv.ext ++ (valued (codes " value ") tlv.value ++ codes "\n")

-- a message that takes so many octets of its frame
unfoldable pub message_line : ℕ → MessageFields → List ℕ
message_line size message =
    (numbered (codes " message type ") message.kind ++ numbered (codes " width ") message.width ++ numbered (codes " size ") size
    ++ addressed_or_none (codes " originator ") message.width message.originator)
    ++ (numbered_or_none (codes " limit ") message.limit ++ numbered_or_none (codes " count ") message.count
    ++ numbered_or_none (codes " sequence ") message.sequence)
    ++ (numbered (codes " tlvs ") (length message.tlvs) ++ numbered (codes " blocks ") (length message.blocks) ++ codes "\n")

-- an address block
unfoldable pub block_line : BlockFields → List ℕ
block_line block = numbered (codes "  block addresses ") (length block.addrs) ++ numbered (codes " tlvs ") (length block.tlvs) ++ codes "\n"

-- an address of that width, and its prefix
unfoldable pub address_line : ℕ → RawAddr → List ℕ
address_line width addr = addressed (codes "   address ") width addr ++ numbered (codes "/") addr.prefix ++ codes "\n"

-- a TLV of the addresses of a block, which are counted from 0
unfoldable pub addr_tlv_line : AddrTlvFields → List ℕ
addr_tlv_line tlv =
    numbered (codes "   tlv ") tlv.kind ++ numbered (codes " extension ") tlv.ext
    ++ (numbered (codes " first ") tlv.first ++ numbered (codes " last ") tlv.last ++ chosen (codes " multi ") tlv.multi)
    ++ (valued (codes " value ") tlv.value ++ codes "\n")

-- the refusal of the line of this number: the place of its first fault, and the rule that is broken there
unfoldable pub refused_line : ℕ → Refusal → List ℕ
refused_line number refusal =
    numbered (codes "line ") number ++ numbered (codes " refused at ") refusal.place
    ++ (numbered (codes " reason ") refusal.reason ++ named (codes " ") refusal.reason ++ codes "\n")
