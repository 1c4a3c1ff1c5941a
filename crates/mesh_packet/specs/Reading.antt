-- How a packet is read, field by field, with the places. Grammar says what it is.
use Rattle.std.specs.Prelude.{ℕ, ◌+◌, ◌*◌, ◌-◌, ◌/◌, List, [], ◌∷◌, length, map, Option, Some, None, Result, Ok, Bool, ◌||◌, nat_lt, ◌==◌, if◌then◌else◌}
use Rattle.mesh_atoms.specs.declared.refusal.Refusal.{Refusal}
use Rattle.mesh_atoms.specs.Reading.{◌>>=◌, Reading, refuse, has, octet_at, short_at, piece_at}
use Rattle.mesh_addr.specs.declared.records.RawAddr.{RawAddr}
use Rattle.mesh_addr.specs.Grammar.{padded}
use Rattle.mesh_addr.specs.Reading as addresses
use Rattle.mesh_tlv.specs.Fields.{TlvFields}
use Rattle.mesh_tlv.specs.Items.{items_at}
use Rattle.mesh_tlv.specs.Reading.{tlv_at, addr_tlv_at, block_at}
use Rattle.mesh_packet.specs.declared.packet.Span.{Span}
use Rattle.mesh_packet.specs.declared.read.MessageHeader.{MessageHeader}
use Rattle.mesh_packet.specs.Fields.{BlockFields, MessageFields, PacketFields}
use Rattle.mesh_packet.specs.Grammar.{width_of}

-- what was read, where it is flagged, and the place after it, else the place itself
unfoldable pub if_flagged : {A : Type 0} → Bool → ℕ → Reading A → Reading (Option A)
if_flagged set at read = if set then (read >>= λ x. Ok (Some x.0, x.1)) else Ok (None, at)

-- an octet, where it is flagged
abbrev pub octet_if : Bool → List ℕ → ℕ → ℕ → Reading (Option ℕ)
octet_if set frame at end = if_flagged set at (octet_at 1 frame at end)

-- a number of 16 bits, where it is flagged
abbrev pub short_if : Bool → List ℕ → ℕ → ℕ → Reading (Option ℕ)
short_if set frame at end = if_flagged set at (short_at 1 frame at end)

-- an address of that width
unfoldable pub address_at : ℕ → List ℕ → ℕ → ℕ → Reading RawAddr
address_at width frame at end = piece_at 1 frame at end width >>= λ x. Ok (record { octets = padded x.0; prefix = 8 * width }, x.1)

-- an originator, where it is flagged
abbrev pub originator_if : Bool → ℕ → List ℕ → ℕ → ℕ → Reading (Option RawAddr)
originator_if set width frame at end = if_flagged set at (address_at width frame at end)

-- an address block and its TLVs
unfoldable pub pair_at : ℕ → List ℕ → ℕ → ℕ → Reading BlockFields
pair_at width frame at end = do
  addrs ← addresses.block_at frame at end width
  tlvs ← block_at (addr_tlv_at (length addrs.0)) frame addrs.1 end
  Ok (record { width = width; addrs = addrs.0; tlvs = tlvs.0 }, tlvs.1)

-- what a message has before its TLVs
unfoldable pub head_at : ℕ → List ℕ → ℕ → ℕ → Reading MessageHeader
head_at flags frame at end = do
  originator ← originator_if (has flags 128) (width_of flags) frame at end
  limit ← octet_if (has flags 64) frame originator.1 end
  count ← octet_if (has flags 32) frame limit.1 end
  sequence ← short_if (has flags 16) frame count.1 end
  Ok (record { originator = originator.0; limit = limit.0; count = count.0; sequence = sequence.0 }, sequence.1)

-- what stands behind a message's size, up to its end
unfoldable pub body_at : ℕ → ℕ → List ℕ → ℕ → ℕ → Reading MessageFields
body_at kind flags frame at end = do
  head ← head_at flags frame at end
  tlvs ← block_at tlv_at frame head.1 end
  blocks ← items_at (pair_at (width_of flags) frame) (end - tlvs.1) tlvs.1 end
  Ok (
    record {
      kind = kind;
      width = width_of flags;
      originator = head.0.originator;
      limit = head.0.limit;
      count = head.0.count;
      sequence = head.0.sequence;
      tlvs = tlvs.0;
      blocks = blocks.0;
    },
    blocks.1,
  )

-- a message
unfoldable pub message_at : List ℕ → ℕ → ℕ → Reading MessageFields
message_at frame at end = do
  kind ← octet_at 1 frame at end
  flags ← octet_at 1 frame kind.1 end
  size ← short_at 1 frame flags.1 end
  if nat_lt size.0 4 || nat_lt (end - at) size.0 then refuse flags.1 3 else body_at kind.0 flags.0 frame size.1 (at + size.0)

-- a message and its size
unfoldable pub sized_at : List ℕ → ℕ → ℕ → Reading (MessageFields × ℕ)
sized_at frame at end = message_at frame at end >>= λ m. Ok ((m.0, m.1 - at), m.1)

-- where messages of these sizes stand, one after the other from a place on
abbrev pub spans_from : ℕ → List ℕ → List Span
spans_from at [] = []
spans_from at (n ∷ ns) = record { start = at; len = n } ∷ spans_from (at + n) ns

-- messages up to the end, and where they stand
unfoldable pub messages_at : List ℕ → ℕ → ℕ → Reading (List MessageFields × List Span)
messages_at frame at end =
    items_at (sized_at frame) (end - at) at end >>= λ x. Ok ((map (λ m. m.0) x.0, spans_from at (map (λ m. m.1) x.0)), x.1)

-- the first octet: the version and flags
unfoldable pub flags_at : List ℕ → ℕ → Reading ℕ
flags_at frame end = do
  flags ← octet_at 1 frame 0 end
  if flags.0 / 16 == 0 then Ok flags else refuse 0 2

-- the TLVs of the packet's header, where a block of them is flagged
unfoldable pub header_tlvs_at : Bool → List ℕ → ℕ → ℕ → Reading (List TlvFields)
header_tlvs_at set frame at end = if set then block_at tlv_at frame at end else Ok ([], at)

-- a packet and the spans of its messages
unfoldable pub packet_of : List ℕ → Result (PacketFields × List Span) Refusal
packet_of frame = do
  flags ← flags_at frame (length frame)
  sequence ← short_if (has flags.0 8) frame flags.1 (length frame)
  tlvs ← header_tlvs_at (has flags.0 4) frame sequence.1 (length frame)
  messages ← messages_at frame tlvs.1 (length frame)
  Ok (record { sequence = sequence.0; tlvs = tlvs.0; messages = messages.0.0 }, messages.0.1)
