-- A HELLO spelled otherwise than the writers spell it, and messages that are sent for no HELLO.
use Rattle.std.specs.Prelude.{ℕ, List, [], ◌∷◌, ◌++◌, Some, None, false}
use Rattle.mesh_atoms.specs.declared.hello.Hello.{Hello}
use Rattle.mesh_packet.specs.declared.packet.Span.{Span}
use Rattle.mesh_packet.specs.Fields.{BlockFields, MessageFields}
use Rattle.mesh_packet.specs.Grammar.{Spells}
use Rattle.mesh_tlv.specs.Fields.{AddrTlvFields}
use Rattle.mesh_wire.specs.Examples.{own, local, near, lone}
use Rattle.mesh_wire.specs.Writes.{WritesHello, alone}

-- the message TLVs of that HELLO: the validity with its extension and a length of 16 bits, the interval with reserved flags
abbrev pub wordy_tlvs : List ℕ
wordy_tlvs = 1 ∷ 152 ∷ 0 ∷ 0 ∷ 1 ∷ 100 ∷ 0 ∷ 19 ∷ 1 ∷ 88 ∷ 7 ∷ 16 ∷ 1 ∷ 119 ∷ []

-- its address, in the fewest octets with reserved flags
abbrev pub short_block : List ℕ
short_block = 1 ∷ 7 ∷ 10 ∷ 0 ∷ 0 ∷ 1 ∷ []

-- its address in one octet more, the first of it as head
abbrev pub long_block : List ℕ
long_block = 1 ∷ 128 ∷ 1 ∷ 10 ∷ 0 ∷ 0 ∷ 1 ∷ []

-- LOCAL_IF, with both indexes of the only address
abbrev pub wordy_local : List ℕ
wordy_local = 0 ∷ 6 ∷ 2 ∷ 51 ∷ 0 ∷ 0 ∷ 1 ∷ 0 ∷ []

-- its message, of so many octets, with that block
abbrev pub message_with : ℕ → List ℕ → List ℕ
message_with size block = 0 ∷ 131 ∷ 0 ∷ size ∷ 10 ∷ 0 ∷ 0 ∷ 1 ∷ 0 ∷ 14 ∷ (wordy_tlvs ++ (block ++ wordy_local))

-- the HELLO of a router that hears nobody, in 41 octets; the packet has reserved flags and an empty block of TLVs
abbrev pub wordy : List ℕ
wordy = 7 ∷ 0 ∷ 0 ∷ message_with 38 short_block

-- the same HELLO with the address block that is too long
abbrev pub too_wordy : List ℕ
too_wordy = 7 ∷ 0 ∷ 0 ∷ message_with 39 long_block

-- octets that may be sent for no HELLO
abbrev pub IsForNone : List ℕ → Type 0
IsForNone bytes = (hello : Hello) → WritesHello hello bytes → ⊥

-- no octets that spell a packet of that message alone may be sent for a HELLO
abbrev pub IsSentForNone : MessageFields → Type 0
IsSentForNone message = (hello : Hello) (bytes : List ℕ) (spans : List Span) → Spells (alone message) spans bytes → WritesHello hello bytes → ⊥

-- the same HELLO with a message TLV of an unknown type
abbrev pub unknown_tlv : MessageFields
unknown_tlv = record lone { tlvs = record { kind = 200; ext = 0; value = None } ∷ lone.tlvs }

-- address TLVs on the second of two addresses, the first of which is the sender's
abbrev pub beside : ℕ → List ℕ → AddrTlvFields
beside kind octets = record { kind = kind; ext = 0; first = 1; last = 1; multi = false; value = Some octets }

-- the block of the sender's address, another address and that TLV
abbrev pub two : ℕ → List ℕ → BlockFields
two kind octets = record { width = 4; addrs = own ∷ near ∷ []; tlvs = local ∷ beside kind octets ∷ [] }

-- the same HELLO with that said of another address
abbrev pub with_near : ℕ → List ℕ → MessageFields
with_near kind octets = record lone { blocks = two kind octets ∷ [] }

-- a LINK_STATUS of the first address
abbrev pub status : AddrTlvFields
status = record { kind = 3; ext = 0; first = 0; last = 0; multi = false; value = Some (1 ∷ []) }

-- the block of the sender's address with it
abbrev pub own_two : BlockFields
own_two = record { width = 4; addrs = own ∷ []; tlvs = local ∷ status ∷ [] }

-- the same HELLO with a LINK_STATUS of the sender's own address
abbrev pub status_of_sender : MessageFields
status_of_sender = record lone { blocks = own_two ∷ [] }
