-- A message that goes one hop further (RFC 7181, section 14.3).
use Rattle.std.specs.Prelude.{◌≡◌, ◌≢◌, ℕ, ◌+◌, ◌-◌, ◌<◌, List, Some, option_map, slice_index, slice_set, length, Bool, true, IsTrue, if◌then◌else◌}
use Rattle.mesh_atoms.specs.Reading.{has}
use Rattle.mesh_packet.specs.Fields.{MessageFields}
use Rattle.mesh_packet.specs.Grammar.{originator_size}

-- the message has a hop left: a hop limit above 1, and no hop count of 255
pub record HasHop (message : MessageFields) : Type 0 where
  pub limit : ℕ
  pub limit_is : message.limit ≡ Some limit
  pub above : 1 < limit
  pub count : (count : ℕ) → message.count ≡ Some count → count < 255

-- the message one hop further: the hop limit one lower, a hop count one higher
abbrev pub one_hop_on : MessageFields → MessageFields
one_hop_on message = record message { limit = option_map (λ n. n - 1) message.limit; count = option_map (λ n. n + 1) message.count }

-- the message after so many hops, sent with that hop limit and no hop count above 0
abbrev pub after_hops : MessageFields → ℕ → ℕ → MessageFields
after_hops message hop_limit hops = record message { limit = Some (hop_limit - hops); count = Some hops }

-- where the hop limit of a message with these flags stands, behind type, flags, size and originator
abbrev pub limit_place : ℕ → ℕ
limit_place flags = 4 + originator_size flags

-- where the hop count stands, behind a hop limit
abbrev pub count_place : ℕ → ℕ
count_place flags = limit_place flags + 1

-- the flags of a message's octets
abbrev pub flags_of : List ℕ → ℕ
flags_of message = slice_index message 1

-- a hop count is flagged
abbrev pub has_count : List ℕ → Bool
has_count message = has (flags_of message) 32

-- a place of a message's octets is neither the hop limit's nor a hop count's
pub record IsElsewhere (message : List ℕ) (place : ℕ) : Type 0 where
  pub no_limit : place ≢ limit_place (flags_of message)
  pub no_count : IsTrue (has_count message) → place ≢ count_place (flags_of message)

-- octets with these flags have a hop limit above 1 and, where it is flagged, a hop count below 255
pub record CanHop (flags : ℕ) (message : List ℕ) : Type 0 where
  pub flagged : has flags 64 ≡ true
  pub limit_there : limit_place flags < length message
  pub limit_above : 1 < slice_index message (limit_place flags)
  pub count_there : has flags 32 ≡ true → count_place flags < length message
  pub count_below : has flags 32 ≡ true → slice_index message (count_place flags) < 255

-- octets with the number at a place one lower, and with the one behind it one higher where there is one
abbrev pub hopped_at : ℕ → Bool → List ℕ → List ℕ
hopped_at place counted message =
    if counted then slice_set (slice_set message place (slice_index message place - 1)) (place + 1) (slice_index message (place + 1) + 1)
    else slice_set message place (slice_index message place - 1)

-- the octets of a message one hop further
abbrev pub hopped : List ℕ → List ℕ
hopped message = hopped_at (limit_place (flags_of message)) (has_count message) message
