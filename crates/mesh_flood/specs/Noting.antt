-- What is held of the messages seen before, and what is noted of one.
use Rattle.std.specs.Prelude.{◌≡◌, ◌≢◌, ◌≤◌, ◌+◌, ℕ, Some, length, Bool, true, false}
use Rattle.mesh_atoms.specs.declared.tuples.FloodKey.{FloodKey}
use Rattle.mesh_atoms.specs.declared.tuples.Noted.{Noted}
use Rattle.mesh_atoms.specs.declared.settings.Times.{Times}
use Rattle.mesh_atoms.specs.declared.limits.TheConstants.{MOST_TUPLES}
use Rattle.mesh_atoms.specs.Base.{Base, HasDistinctKeys, SetsOnly, Same, base_of, flood_eq}
use Rattle.mesh_atoms.specs.State.{NotedMessages}
use Rattle.mesh_flood.specs.declared.verdict.Heading.{Heading}
use Rattle.mesh_flood.specs.declared.verdict.Forward.{Forward}
use Rattle.mesh_flood.specs.Verdict.{key_of, is_received, is_forwarded}

-- the sets, and the times for which tuples are held
pub record HeldSets : Type 0 where
  pub times : Times
  pub noted : NotedMessages

-- each set has distinct keys
pub record AreTables (noted : NotedMessages) : Type 0 where
  pub received : (i : ℕ) → HasDistinctKeys flood_eq (base_of noted.received i)
  pub processed : HasDistinctKeys flood_eq noted.processed
  pub forwarded : HasDistinctKeys flood_eq noted.forwarded

-- each set has at most 16,384 tuples
pub record AreWithin (noted : NotedMessages) : Type 0 where
  pub received : (i : ℕ) → length (base_of noted.received i) ≤ MOST_TUPLES
  pub processed : length noted.processed ≤ MOST_TUPLES
  pub forwarded : length noted.forwarded ≤ MOST_TUPLES

-- the set has the tuple until the moment, where it is noted; all else stays
abbrev pub Notes : Bool → FloodKey → ℕ → Base FloodKey Noted → Base FloodKey Noted → Type 0
Notes true key until old new = SetsOnly flood_eq old new key (Some (record {}, until))
Notes false key until old new = Same flood_eq old new

-- what is noted of a message of interface i that is processed or not, by the answer on forwarding (RFC 7181, section 14)
pub record AfterNote (times : Times) (now i : ℕ) (heading : Heading) (is_processed : Bool) (answer : Forward) (old new : NotedMessages) : Type 0 where
  pub tables : AreTables new
  pub interfaces : length new.received ≡ length old.received
  pub processed : Notes is_processed (key_of heading) (now + times.processed_hold) old.processed new.processed
  pub received : Notes (is_received answer) (key_of heading) (now + times.received_hold) (base_of old.received i) (base_of new.received i)
  pub others : (j : ℕ) → j ≢ i → Same flood_eq (base_of old.received j) (base_of new.received j)
  pub forwarded : Notes (is_forwarded answer) (key_of heading) (now + times.forwarded_hold) old.forwarded new.forwarded
