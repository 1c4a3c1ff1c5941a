-- That the definitions leave no choice: octets spell one packet or have one first fault, and a packet has one least form. And
-- what is a packet of one message alone.
use Rattle.std.specs.Prelude.{◌≡◌, ◌⊎◌, ◌↔◌, ℕ, List, [], ◌∷◌, length, None}
use Rattle.mesh_packet.specs.declared.packet.Span.{Span}
use Rattle.mesh_packet.specs.Fields.{MessageFields, PacketFields}
use Rattle.mesh_packet.specs.Grammar.{SpellsMessage, Spells, FirstFault}
use Rattle.mesh_packet.specs.Least.{LeastForm}

-- octets spell at most one packet, whose messages stand in one way
abbrev pub HasOnePacket : Type 0
HasOnePacket = (frame : List ℕ) (p q : PacketFields) (here there : List Span) → Spells p here frame → Spells q there frame → (p ≡ q) × (here ≡ there)

-- octets have at most one first fault
abbrev pub HasOneFault : Type 0
HasOneFault = (frame : List ℕ) (place reason other why : ℕ) → FirstFault frame place reason → FirstFault frame other why → (place ≡ other) × (reason ≡ why)

-- octets spell a packet, or have a first fault
abbrev pub SpellsOrHasFault : Type 0
SpellsOrHasFault = (frame : List ℕ)
    → ((packet : PacketFields) × (spans : List Span) × Spells packet spans frame) ⊎ ((place : ℕ) × (reason : ℕ) × FirstFault frame place reason)

-- octets that spell a packet have no first fault
abbrev pub HasNoFaultToo : Type 0
HasNoFaultToo = (frame : List ℕ) (packet : PacketFields) (spans : List Span) (place reason : ℕ) → Spells packet spans frame → FirstFault frame place reason → ⊥

-- a packet has at most one least form
abbrev pub HasOneLeastForm : Type 0
HasOneLeastForm = (packet : PacketFields) (a b : List ℕ) → LeastForm packet a → LeastForm packet b → a ≡ b

-- the octets spell a packet of this message alone, with no sequence number and no TLVs, and the message stands there
abbrev pub SpellsAlone : MessageFields → Span → List ℕ → Type 0
SpellsAlone message span bytes = Spells (record { sequence = None; tlvs = []; messages = message ∷ [] }) (span ∷ []) bytes

-- behind the octet 0, a packet's header without flags, octets spell a packet of a message alone, which stands there, exactly where
-- they spell the message
abbrev pub ZeroBeginsPackets : Type 0
ZeroBeginsPackets = (message : MessageFields) (octets : List ℕ)
    → SpellsMessage message octets ↔ SpellsAlone message (record { start = 1; len = length octets }) (0 ∷ octets)
