-- What a router sends when its clock ticks.
use Rattle.std.specs.Prelude.{◌≡◌, ◌≢◌, ℕ, ◌+◌, ◌*◌, ◌%◌, ◌<◌, ◌≤◌, ◌⊎◌, ◌++◌, ◌∷◌, [], List, Bool, Some, slice_get, length, nat_eq}
use Rattle.mesh_atoms.specs.declared.hello.Hello.{Hello}
use Rattle.mesh_atoms.specs.declared.tc.Tc.{Tc}
use Rattle.mesh_atoms.specs.declared.tc.TcRow.{TcRow}
use Rattle.mesh_atoms.specs.Advertised.{AreParts}
use Rattle.mesh_atoms.specs.Codes.Codes.{time_at_distance}
use Rattle.mesh_atoms.specs.Hello.{IsHelloNow, IsRoundedUp}
use Rattle.mesh_atoms.specs.State.{State, IsOriginator}
use Rattle.mesh_atoms.specs.Validity.{IsValidity}
use Rattle.mesh_wire.specs.Writes.{WritesHello, WritesTc}
use Rattle.mesh_machine.specs.declared.frame.Frame.{Frame}
use Rattle.mesh_machine.specs.Frames.{on_each}

-- the first moment above now of the series that begins at `start` and goes on by that interval
pub record IsNextMoment (start interval now next : ℕ) : Type 0 where
  pub later : now < next
  pub turn : ℕ
  pub is : next ≡ start + turn * interval
  pub first : (other : ℕ) → now < start + other * interval → next ≤ start + other * interval

-- HELLOs

-- a frame with the HELLO of interface i, however it is spelled (RFC 6130, section 11, and RFC 7181, section 15.1)
pub record IsHelloFrame (s : State) (i : ℕ) (frame : Frame) : Type 0 where
  pub iface : frame.iface ≡ i
  pub hello : Hello
  pub is_now : IsHelloNow s i s.last hello
  pub written : WritesHello hello frame.bytes

-- one such frame on each interface, in order
pub record AreHelloFrames (s : State) (sent : List Frame) : Type 0 where
  pub count : length sent ≡ length s.settings.interfaces
  pub each : (i : ℕ) (frame : Frame) → slice_get sent i ≡ Some frame → IsHelloFrame s i frame

-- the HELLOs of a tick: none before they are due; else one on each interface, and they are next due at the first moment of their
-- series above now, so that a late tick sends once
pub data SendsHellos (old new : State) : List Frame → Type 0 where
  Hellos_early : new.last < old.next_hello → new.next_hello ≡ old.next_hello → SendsHellos old new []
  Hellos_due : {sent : List Frame} → old.next_hello ≤ new.last →
      IsNextMoment new.settings.hello_at new.settings.times.hello new.last new.next_hello →
      AreHelloFrames new sent → SendsHellos old new sent

-- TCs

-- a TC of the router with that sequence number and these of its rows, complete where these are all (RFC 7181, section 16.1)
pub record IsTcOfRows (s : State) (validity : List ℕ) (complete : Bool) (sequence : ℕ) (rows : List TcRow) (tc : Tc) : Type 0 where
  pub originator : IsOriginator s.settings tc.originator
  pub sequence_is : tc.sequence ≡ sequence
  pub ansn : tc.ansn ≡ s.ansn
  pub complete_is : tc.complete ≡ complete
  pub validity_is : tc.validity ≡ time_at_distance 1 validity
  pub interval : (time : ℕ) × (tc.interval ≡ Some time) × IsRoundedUp s.settings.times.tc time
  pub rows_are : tc.rows ≡ rows

-- a TC for each part of the rows, in order, each however it is spelled, and in the same octets on each interface. Each takes the next
-- sequence number, which goes round
pub data SendsParts (s : State) (validity : List ℕ) (complete : Bool) : ℕ → List (List TcRow) → List Frame → Type 0 where
  No_part : {sequence : ℕ} → SendsParts s validity complete sequence [] []
  First_part : {sequence : ℕ} {rows : List TcRow} {parts : List (List TcRow)} {more : List Frame} (tc : Tc) (bytes : List ℕ) →
      IsTcOfRows s validity complete sequence rows tc → WritesTc tc s.settings.times.tc_hop_limit validity bytes →
      SendsParts s validity complete ((sequence + 1) % 65536) parts more →
      SendsParts s validity complete sequence (rows ∷ parts) (on_each (length s.settings.interfaces) bytes ++ more)

-- TCs are sent while there are rows, and for the hold time after they became empty (RFC 7181, section 16.2)
abbrev pub HasToAdvertise : State → Type 0
HasToAdvertise s =
    (s.rows ≢ []) ⊎ ((moment : ℕ) × (s.emptied ≡ Some moment) × (s.last < moment + s.settings.times.advertised_hold))

-- the TCs of a tick: none before they are due, or where there is nothing to advertise; else one for each part of the rows. They are
-- complete where that is one
pub data SendsTcs (old new : State) : List Frame → Type 0 where
  Tcs_early : new.last < old.next_tc → new.next_tc ≡ old.next_tc → new.sequence ≡ old.sequence → SendsTcs old new []
  Tcs_silent : old.next_tc ≤ new.last → IsNextMoment new.settings.tc_at new.settings.times.tc new.last new.next_tc →
      (HasToAdvertise new → ⊥) → new.sequence ≡ old.sequence → SendsTcs old new []
  Tcs_due : {sent : List Frame} → old.next_tc ≤ new.last →
      IsNextMoment new.settings.tc_at new.settings.times.tc new.last new.next_tc → HasToAdvertise new →
      (parts : List (List TcRow)) → AreParts new.settings.tc_rows new.rows parts →
      (validity : List ℕ) → IsValidity new.settings.times.topology_hold new.settings.near_hold validity →
      new.sequence ≡ (old.sequence + length parts) % 65536 →
      SendsParts new validity (nat_eq (length parts) 1) old.sequence parts sent → SendsTcs old new sent
