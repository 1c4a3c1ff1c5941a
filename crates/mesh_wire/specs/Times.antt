-- The times that a message tells at a distance (RFC 5497, section 7).
use Rattle.std.specs.Prelude.{◌≡◌, ℕ, ◌+◌, ◌%◌, ◌<◌, List, [], ◌∷◌, length, Option, Some, None}
use Rattle.mesh_atoms.specs.Codes.Codes.{time_at_distance}
use Rattle.mesh_atoms.specs.declared.tlv_type.TheConstants.{INTERVAL_TIME, VALIDITY_TIME}
use Rattle.mesh_packet.specs.Fields.{MessageFields}
use Rattle.mesh_wire.specs.Parts.{values_of}

-- hops that a message has come, this one included: its hop count, or 0 without one, and 1
abbrev pub distance_of : Option ℕ → ℕ
distance_of None = 1
distance_of (Some count) = count + 1

-- the message has one TLV of that type, which gives the time at the distance
abbrev pub HasTime : MessageFields → ℕ → ℕ → ℕ → Type 0
HasTime message kind distance ticks =
    (value : List ℕ) × (values_of kind message ≡ value ∷ []) × (length value % 2 ≡ 1) × (time_at_distance distance value ≡ ticks)

-- the validity: a time above 0
abbrev pub ValidityIs : MessageFields → ℕ → ℕ → Type 0
ValidityIs message distance ticks = HasTime message VALIDITY_TIME distance ticks × (0 < ticks)

-- the interval, which may be left out
abbrev pub IntervalIs : MessageFields → ℕ → Option ℕ → Type 0
IntervalIs message distance (Some ticks) = HasTime message INTERVAL_TIME distance ticks
IntervalIs message distance None = values_of INTERVAL_TIME message ≡ []
