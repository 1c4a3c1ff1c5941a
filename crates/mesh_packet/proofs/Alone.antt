-- Packets of one message alone.
use Rattle.mesh_packet.proofs.Common.{ℕ, arith, List, ◌∷◌, length, common_steps, append-nil, MessageFields, SpellsMessage}
use Rattle.mesh_packet.specs.Laws.{SpellsAlone}

-- a message behind the octet 0 is a packet of it alone
pub behind_zero : (m : MessageFields) (octets : List ℕ) → SpellsMessage m octets → SpellsAlone m (record { start = 1; len = length octets }) (0 ∷ octets)
behind_zero m octets spells = grind (arith, common_steps, append-nil)
