-- What a router sends can be sent.
use Rattle.std.specs.Prelude.{ℕ, ◌<◌, List, length, slice_index}
use Rattle.mesh_atoms.specs.declared.settings.RouterSettings.{RouterSettings}
use Rattle.mesh_wire.specs.packet.declared.packet.Span.{Span}
use Rattle.mesh_wire.specs.packet.Fields.{PacketFields}
use Rattle.mesh_wire.specs.packet.Grammar.{Spells}
use Rattle.mesh_machine.specs.declared.frame.Frame.{Frame}

-- numbers that are octets
abbrev pub AreOctets : List ℕ → Type 0
AreOctets bytes = (i : ℕ) → slice_index bytes i < 256

-- octets that spell a packet
abbrev pub IsPacket : List ℕ → Type 0
IsPacket bytes = (packet : PacketFields) × (spans : List Span) × Spells packet spans bytes

-- a frame on an interface of the router that spells a packet
pub record IsSendable (settings : RouterSettings) (frame : Frame) : Type 0 where
  pub iface : frame.iface < length settings.interfaces
  pub packet : IsPacket frame.bytes
