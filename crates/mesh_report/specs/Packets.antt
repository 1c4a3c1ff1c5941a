-- The listing of a line that was read as a packet, or refused.
use Rattle.std.specs.Prelude.{◌≡◌, ℕ, ◌≤◌, ◌⊎◌, List, [], ◌∷◌, ◌++◌, length, Result, Ok, Err, Bool, true, false, codes}
use Rattle.std.specs.List.{flat_map}
use Rattle.mesh_atoms.specs.declared.refusal.Refusal.{Refusal}
use Rattle.mesh_atoms.specs.declared.limits.TheConstants.{LONGEST_DATAGRAM}
use Rattle.mesh_packet.specs.Fields.{BlockFields, MessageFields, PacketFields, fields_of_decoded}
use Rattle.mesh_packet.specs.Least.{IsEncodable, LeastForm, IsTooLong}
use Rattle.mesh_packet.specs.declared.packet.Span.{Span}
use Rattle.hex.specs.Hex.{encode_lower}
use Rattle.mesh_report.specs.Readings.{IsReading}
use Rattle.mesh_report.specs.Lines.{packet_line, tlv_line, message_line, block_line, address_line, addr_tlv_line, refused_line}
use Rattle.mesh_report.specs.declared.packet.LineRead.{LineRead}
use Rattle.mesh_report.specs.declared.packet.LineRead.TheVariants.{Read, Refused}

-- an address block with its addresses and their TLVs
unfoldable pub block_text : BlockFields → List ℕ
block_text block = block_line block ++ flat_map (address_line block.width) block.addrs ++ flat_map addr_tlv_line block.tlvs

-- a message of so many octets with its TLVs and address blocks
unfoldable pub message_text : ℕ → MessageFields → List ℕ
message_text size message = message_line size message ++ flat_map tlv_line message.tlvs ++ flat_map block_text message.blocks

-- a message, and behind it how it reads
abbrev pub IsMessageText : ℕ → MessageFields → List ℕ → Type 0
IsMessageText size message text = (reading : List ℕ) × IsReading message reading × (text ≡ message_text size message ++ reading)

-- messages, each by the span in which it stands
abbrev pub IsMessagesText : List MessageFields → List Span → List ℕ → Type 0
IsMessagesText [] [] text = text ≡ []
IsMessagesText (message ∷ messages) (span ∷ spans) text =
    (first : List ℕ) × (rest : List ℕ) × IsMessageText span.len message first × IsMessagesText messages spans rest × (text ≡ first ++ rest)
IsMessagesText [] (span ∷ spans) text = ⊥
IsMessagesText (message ∷ messages) [] text = ⊥

-- a packet with its TLVs and its messages
abbrev pub IsPacketListed : ℕ → PacketFields → List Span → List ℕ → Type 0
IsPacketListed number packet spans text =
    (messages : List ℕ) × IsMessagesText packet.messages spans messages
    × (text ≡ packet_line number packet ++ flat_map tlv_line packet.tlvs ++ messages)

-- what a line says: a packet and where its messages stand, or the refusal
abbrev pub line_read : LineRead → Result (PacketFields × List Span) Refusal
line_read (Read decoded) = Ok (fields_of_decoded decoded)
line_read (Refused refusal) = Err refusal

-- ---- with the packet written again

-- the octets of a recode, as the last line of a packet
unfoldable pub recode_line : List ℕ → List ℕ
recode_line octets = codes " recode " ++ encode_lower octets ++ codes "\n"

-- the last line of a packet: the packet in its least form, or `none` where that has more than 65,507 octets
abbrev pub IsRecodeLine : PacketFields → List ℕ → Type 0
IsRecodeLine packet line =
    ((octets : List ℕ) × LeastForm packet octets × (length octets ≤ LONGEST_DATAGRAM) × (line ≡ recode_line octets))
    ⊎ (IsTooLong packet × (line ≡ codes " recode none\n"))

-- what can be listed: a packet that has a place for each message and can be written again, or a refusal
abbrev pub CanList : Result (PacketFields × List Span) Refusal → Type 0
CanList (Ok read) = (length read.0.messages ≡ length read.1) × IsEncodable read.0
CanList (Err refusal) = Unit {0}

-- what stands behind a packet: its least form where that is asked for
abbrev pub IsRecode : Bool → PacketFields → List ℕ → Type 0
IsRecode false packet text = text ≡ []
IsRecode true packet text = IsRecodeLine packet text

-- what is listed of the line of this number, with the packet written again or without
abbrev pub IsLineText : Bool → ℕ → Result (PacketFields × List Span) Refusal → List ℕ → Type 0
IsLineText recode number (Ok read) text =
    (listing : List ℕ) × (last : List ℕ) × IsPacketListed number read.0 read.1 listing × IsRecode recode read.0 last × (text ≡ listing ++ last)
IsLineText recode number (Err refusal) text = text ≡ refused_line number refusal
