-- What a packet is, and what its first fault is, apart from how it is read (RFC 5444, sections 5.1 and 5.2).
use Rattle.std.specs.Prelude.{◌≡◌, ℕ, ◌+◌, ◌*◌, ◌%◌, ◌<◌, ◌≤◌, ◌⊎◌, List, [], ◌∷◌, ◌++◌, length, Option, Some, None, Bool, true, false, if◌then◌else◌}
use Rattle.mesh_atoms.specs.Grammar.{SpellsShort}
use Rattle.mesh_atoms.specs.Reading.{has}
use Rattle.mesh_addr.specs.declared.records.RawAddr.{RawAddr}
use Rattle.mesh_addr.specs.Grammar as addresses
use Rattle.mesh_addr.specs.Grammar.{padded}
use Rattle.mesh_tlv.specs.Fields.{TlvFields}
use Rattle.mesh_tlv.specs.Grammar.{SpellsTlvBlock, SpellsAddrTlvBlock, TlvBlockFault, AddrTlvBlockFault}
use Rattle.mesh_tlv.specs.Items.{SpellsItems, ItemsFault}
use Rattle.mesh_packet.specs.declared.packet.Span.{Span}
use Rattle.mesh_packet.specs.Fields.{BlockFields, MessageFields, PacketFields}

-- what is spelled where it is flagged, and no octets where it isn't
abbrev pub SpellsIf : {A : Type 0} → Bool → (A → List ℕ → Type 0) → Option A → List ℕ → Type 0
SpellsIf true Says (Some x) bytes = Says x bytes
SpellsIf false Says None bytes = bytes ≡ []
SpellsIf true Says None bytes = ⊥
SpellsIf false Says (Some x) bytes = ⊥

-- an octet, where it is flagged
abbrev pub SpellsOctet : Bool → Option ℕ → List ℕ → Type 0
SpellsOctet set = SpellsIf set (λ n bytes. bytes ≡ n ∷ [])

-- a number of 16 bits, where it is flagged
abbrev pub SpellsNumber : Bool → Option ℕ → List ℕ → Type 0
SpellsNumber set = SpellsIf set SpellsShort

-- an address of that width with all its bits as prefix
abbrev pub SpellsAddress : ℕ → RawAddr → List ℕ → Type 0
SpellsAddress width a bytes = (length bytes ≡ width) × (a.octets ≡ padded bytes) × (a.prefix ≡ 8 * width)

-- an originator, where it is flagged
abbrev pub SpellsOriginator : Bool → ℕ → Option RawAddr → List ℕ → Type 0
SpellsOriginator set width = SpellsIf set (SpellsAddress width)

-- an address block of that width and the TLV block behind it
pub record SpellsPair (width : ℕ) (block : BlockFields) (bytes : List ℕ) : Type 0 where
  pub addrs : List ℕ
  pub tlvs : List ℕ
  pub width_is : block.width ≡ width
  pub addrs_is : addresses.SpellsBlock width block.addrs addrs
  pub tlvs_is : SpellsAddrTlvBlock (length block.addrs) block.tlvs tlvs
  pub whole : bytes ≡ addrs ++ tlvs

-- the width of a message's addresses, in the low four bits of its flags
abbrev pub width_of : ℕ → ℕ
width_of flags = flags % 16 + 1

-- what a message has before its TLVs, each part where it is flagged
pub record SpellsMessageHead (flags : ℕ) (originator : Option RawAddr) (limit count sequence : Option ℕ) (bytes : List ℕ) : Type 0 where
  pub originator_text : List ℕ
  pub limit_text : List ℕ
  pub count_text : List ℕ
  pub sequence_text : List ℕ
  pub originator_is : SpellsOriginator (has flags 128) (width_of flags) originator originator_text
  pub limit_is : SpellsOctet (has flags 64) limit limit_text
  pub count_is : SpellsOctet (has flags 32) count count_text
  pub sequence_is : SpellsNumber (has flags 16) sequence sequence_text
  pub whole : bytes ≡ originator_text ++ (limit_text ++ (count_text ++ sequence_text))

-- what stands in a message behind its size
pub record SpellsBody (flags : ℕ) (message : MessageFields) (bytes : List ℕ) : Type 0 where
  pub head : List ℕ
  pub tlvs : List ℕ
  pub blocks : List ℕ
  pub width_is : message.width ≡ width_of flags
  pub head_is : SpellsMessageHead flags message.originator message.limit message.count message.sequence head
  pub tlvs_is : SpellsTlvBlock message.tlvs tlvs
  pub blocks_is : SpellsItems (SpellsPair (width_of flags)) message.blocks blocks
  pub whole : bytes ≡ head ++ (tlvs ++ blocks)

-- a message: its type, its flags, the size of all of it, and the rest
pub record SpellsMessage (message : MessageFields) (bytes : List ℕ) : Type 0 where
  pub flags : ℕ
  pub size : List ℕ
  pub body : List ℕ
  pub size_is : SpellsShort (4 + length body) size
  pub body_is : SpellsBody flags message body
  pub whole : bytes ≡ message.kind ∷ (flags ∷ (size ++ body))

-- messages one after the other from a place on, and where each stands
abbrev pub SpellsMessages : ℕ → List MessageFields → List Span → List ℕ → Type 0
SpellsMessages at [] [] bytes = bytes ≡ []
SpellsMessages at (m ∷ ms) (s ∷ ss) bytes =
    (text : List ℕ) × (rest : List ℕ) × SpellsMessage m text × (s ≡ record { start = at; len = length text }) × SpellsMessages (at + length text) ms ss rest
    × (bytes ≡ text ++ rest)
SpellsMessages at [] (s ∷ ss) bytes = ⊥
SpellsMessages at (m ∷ ms) [] bytes = ⊥

-- the TLVs of the packet's header, where a block of them is flagged
abbrev pub SpellsHeaderTlvs : Bool → List TlvFields → List ℕ → Type 0
SpellsHeaderTlvs true tlvs bytes = SpellsTlvBlock tlvs bytes
SpellsHeaderTlvs false tlvs bytes = (tlvs ≡ []) × (bytes ≡ [])

-- The whole list of octets spells this packet, and its messages stand there.
pub record Spells (packet : PacketFields) (spans : List Span) (bytes : List ℕ) : Type 0 where
  pub flags : ℕ
  pub sequence : List ℕ
  pub tlvs : List ℕ
  pub messages : List ℕ
  pub version : flags < 16
  pub sequence_is : SpellsNumber (has flags 8) packet.sequence sequence
  pub tlvs_is : SpellsHeaderTlvs (has flags 4) packet.tlvs tlvs
  pub messages_is : SpellsMessages (1 + length sequence + length tlvs) packet.messages spans messages
  pub whole : bytes ≡ flags ∷ (sequence ++ (tlvs ++ messages))

-- ---- first faults, at places counted from where the part begins

-- of an address block and its TLV block, at the front of what is left of the message
pub data PairFault (width : ℕ) (bytes : List ℕ) : ℕ → ℕ → Type 0 where
  in_addrs : (place reason : ℕ) → addresses.BlockFault width bytes place reason → PairFault width bytes place reason
  in_addr_tlvs : (addrs : List RawAddr) (text rest : List ℕ) (place reason : ℕ) → addresses.SpellsBlock width addrs text → bytes ≡ text ++ rest
      → AddrTlvBlockFault (length addrs) rest place reason → PairFault width bytes (length text + place) reason

-- how many octets a flagged field has
abbrev pub size_if : Bool → ℕ → ℕ
size_if set n = if set then n else 0

abbrev pub originator_size : ℕ → ℕ
originator_size flags = size_if (has flags 128) (width_of flags)

abbrev pub limit_size : ℕ → ℕ
limit_size flags = size_if (has flags 64) 1

abbrev pub count_size : ℕ → ℕ
count_size flags = size_if (has flags 32) 1

abbrev pub sequence_size : ℕ → ℕ
sequence_size flags = size_if (has flags 16) 2

abbrev pub head_size : ℕ → ℕ
head_size flags = originator_size flags + limit_size flags + count_size flags + sequence_size flags

-- of what a message has before its TLVs: a part is cut off
pub data HeadCut (flags : ℕ) (bytes : List ℕ) : ℕ → Type 0 where
  originator_cut : length bytes < originator_size flags → HeadCut flags bytes 0
  limit_cut : originator_size flags ≤ length bytes → length bytes < originator_size flags + limit_size flags → HeadCut flags bytes (originator_size flags)
  count_cut : originator_size flags + limit_size flags ≤ length bytes → length bytes < originator_size flags + limit_size flags + count_size flags
      → HeadCut flags bytes (originator_size flags + limit_size flags)
  sequence_cut : originator_size flags + limit_size flags + count_size flags ≤ length bytes → length bytes < head_size flags
      → HeadCut flags bytes (originator_size flags + limit_size flags + count_size flags)

-- of what stands in a message behind its size, up to the message's end
pub data BodyFault (flags : ℕ) (bytes : List ℕ) : ℕ → ℕ → Type 0 where
  in_head : (place : ℕ) → HeadCut flags bytes place → BodyFault flags bytes place 1
  in_tlvs : (head rest : List ℕ) (place reason : ℕ) → length head ≡ head_size flags → bytes ≡ head ++ rest → TlvBlockFault rest place reason
      → BodyFault flags bytes (length head + place) reason
  in_blocks : (tlvs : List TlvFields) (head text rest : List ℕ) (place reason : ℕ) → length head ≡ head_size flags → SpellsTlvBlock tlvs text
      → bytes ≡ head ++ (text ++ rest) → ItemsFault (SpellsPair (width_of flags)) (PairFault (width_of flags)) rest place reason
      → BodyFault flags bytes (length head + length text + place) reason

-- of a message, at the front of what is left of the frame
pub data MessageFault (bytes : List ℕ) : ℕ → ℕ → Type 0 where
  flags_cut : (kind : ℕ) → bytes ≡ kind ∷ [] → MessageFault bytes 1 1
  size_cut : (kind flags : ℕ) (rest : List ℕ) → bytes ≡ kind ∷ (flags ∷ rest) → length rest < 2 → MessageFault bytes 2 1
  size_wrong : (kind flags n : ℕ) (size rest : List ℕ) → SpellsShort n size → bytes ≡ kind ∷ (flags ∷ (size ++ rest)) → (n < 4) ⊎ (4 + length rest < n)
      → MessageFault bytes 2 3
  in_body : (kind flags : ℕ) (size body rest : List ℕ) (place reason : ℕ) → SpellsShort (4 + length body) size
      → bytes ≡ kind ∷ (flags ∷ (size ++ (body ++ rest))) → BodyFault flags body place reason → MessageFault bytes (4 + place) reason

-- the first octet is sound, and the sequence number behind it
pub record BeginsPacket (s : List ℕ) (flags : ℕ) (sequence rest : List ℕ) : Type 0 where
  pub version : flags < 16
  pub number : Option ℕ
  pub number_is : SpellsNumber (has flags 8) number sequence
  pub parts : s ≡ flags ∷ (sequence ++ rest)

-- At this place of the whole frame stands the first field that breaks a rule, and this is the least rule that it breaks.
pub data FirstFault (s : List ℕ) : ℕ → ℕ → Type 0 where
  no_octet : s ≡ [] → FirstFault s 0 1
  version : (flags : ℕ) (rest : List ℕ) → s ≡ flags ∷ rest → 16 ≤ flags → FirstFault s 0 2
  number_cut : (flags : ℕ) (rest : List ℕ) → s ≡ flags ∷ rest → flags < 16 → has flags 8 ≡ true → length rest < 2 → FirstFault s 1 1
  in_header_tlvs : (flags : ℕ) (sequence rest : List ℕ) (place reason : ℕ) → BeginsPacket s flags sequence rest → has flags 4 ≡ true
      → TlvBlockFault rest place reason → FirstFault s (1 + length sequence + place) reason
  in_message : (flags : ℕ) (tlvs : List TlvFields) (sequence text rest : List ℕ) (place reason : ℕ) → BeginsPacket s flags sequence (text ++ rest)
      → SpellsHeaderTlvs (has flags 4) tlvs text → ItemsFault SpellsMessage MessageFault rest place reason
      → FirstFault s (1 + length sequence + length text + place) reason
