-- What a frame reads as.
use Rattle.std.specs.Prelude.{ℕ, List, [], ◌∷◌}
use Rattle.mesh_bases.specs.declared.reading.content.FrameContent.{FrameContent}
use Rattle.mesh_bases.specs.declared.reading.content.FrameContent.TheVariants as content
use Rattle.mesh_bases.specs.declared.reading.content.ReadPacket.{ReadPacket}
use Rattle.mesh_bases.specs.declared.reading.message.TypedMessage.{TypedMessage}
use Rattle.mesh_bases.specs.Reading.Message.{IsReadAs}
use Rattle.mesh_packet.specs.Fields.{MessageFields, PacketFields}
use Rattle.mesh_packet.specs.Grammar.{Spells, FirstFault}

-- each message reads as the value at its place
abbrev pub AreReadAs : List MessageFields → List TypedMessage → Type 0
AreReadAs [] [] = Unit {0}
AreReadAs (message ∷ messages) (one ∷ typed) = IsReadAs message one × AreReadAs messages typed
AreReadAs [] (one ∷ typed) = ⊥
AreReadAs (message ∷ messages) [] = ⊥

-- the octets spell a packet whose messages stand there and read so
abbrev pub IsPacketOf : List ℕ → ReadPacket → Type 0
IsPacketOf bytes read = (packet : PacketFields) × Spells packet read.spans bytes × AreReadAs packet.messages read.typed

-- the octets have their first fault there, or spell such a packet
abbrev pub IsContentOf : List ℕ → FrameContent → Type 0
IsContentOf bytes (content.Refused refusal) = FirstFault bytes refusal.place refusal.reason
IsContentOf bytes (content.Packet read) = IsPacketOf bytes read
