-- What is told of frames that an event sends.
use Rattle.std.specs.Prelude.{◌≡◌, ◌<◌, ℕ, List, [], ◌∷◌, map, length, codes, decimal, All, Bool}
use Rattle.std.specs.List.{AllPairs}
use Rattle.mesh_atoms.specs.declared.hello.Hello.{Hello}
use Rattle.mesh_atoms.specs.declared.settings.RouterSettings.{RouterSettings}
use Rattle.mesh_atoms.specs.declared.tc.Tc.{Tc}
use Rattle.mesh_atoms.specs.Hello.{IsHelloNow}
use Rattle.mesh_atoms.specs.Nodes.{IsBefore}
use Rattle.mesh_atoms.specs.Validity.{IsTimeValue, IsValidity}
use Rattle.mesh_atoms.specs.State.{State}
use Rattle.mesh_texts.specs.Lines.Marks.{joined}
use Rattle.mesh_trace.specs.machine.declared.frame.Frame.{Frame}
use Rattle.mesh_trace.specs.machine.Sending.{IsTcOfRows}
use Rattle.mesh_trace.specs.machine.Traffic.{Sends}
use Rattle.mesh_trace.specs.Positions.Standing.{Sent, Lost}
use Rattle.mesh_wire.specs.Writes.{WritesHello, WritesTc}
use Rattle.mesh_replay.specs.declared.checking.case.Case.{Case}
use Rattle.mesh_replay.specs.declared.checking.case.CheckedEvent.{CheckedEvent}
use Rattle.mesh_replay.specs.declared.checking.case.Progress.{Progress}
use Rattle.mesh_replay.specs.declared.checking.octets.DueMessage.{DueMessage}
use Rattle.mesh_replay.specs.declared.checking.octets.DueMessage.TheVariants as due
use Rattle.mesh_replay.specs.declared.checking.tcs.DueRows.{DueRows}
use Rattle.mesh_replay.specs.Traffic.Traffic.{SeededTraffic}
use Rattle.mesh_replay.specs.Checking.Cases.{AnyState, TellsItems}
use Rattle.mesh_replay.specs.Checking.Kept.{IsSoundRouter}

-- what stands before the octets in the line of a frame that is sent
abbrev pub sent_front : ℕ → List ℕ → List ℕ → List ℕ
sent_front moment router face = joined (codes "sent " ∷ decimal moment ∷ codes " " ∷ router ∷ codes " " ∷ face ∷ codes " " ∷ [])

-- octets spell a message of a router with these settings
abbrev pub WritesSent : RouterSettings → DueMessage → List ℕ → Type 0
WritesSent r (due.Hello hello) bytes = WritesHello hello.now bytes
WritesSent r (due.Tc tc validity) bytes = WritesTc tc.now r.times.tc_hop_limit validity.now bytes

-- frames are on interfaces of a router with these settings
abbrev pub AreOnFaces : RouterSettings → List Frame → Type 0
AreOnFaces r frames = All (λ (f : Frame). f.iface < length r.interfaces) frames

-- frames of these very octets are told
abbrev pub TellsSentFrames : Case → Progress → Progress → CheckedEvent → List Frame → Bool → Type 0
TellsSentFrames case old new event frames fits = TellsItems case old new event AnyState (λ s. map Sent frames) (λ s. []) fits

-- the event sends a frame, and its losses are told as far as they fit
pub record GoesOut (case : Case) (old new : Progress) (event : CheckedEvent) (frame : Frame) (fits : Bool) : Type 0 where
  pub lost : List ℕ
  pub flights : SeededTraffic
  pub sends : Sends case.scenario.now event.moment event.router (record { iface = frame.iface; frame = frame.bytes; lost = lost })
      old.traffic.traffic flights.traffic
  pub tells : TellsItems case (record old { traffic = flights }) new event AnyState (λ s. map Lost lost) (λ s. []) fits

-- the router has this HELLO on an interface
pub record HasHello (iface : ℕ) (hello : Hello) (s : State) : Type 0 where
  pub sound : IsSoundRouter s
  pub is : IsHelloNow s iface s.last hello

-- the router has this TC
abbrev pub HasTc : List ℕ → Tc → State → Type 0
HasTc validity tc s = IsTcOfRows s validity tc.complete tc.sequence tc.rows tc

-- the router has this ANSN
abbrev pub HasAnsn : ℕ → State → Type 0
HasAnsn ansn s = s.ansn ≡ ansn

-- rows that may be advertised, with the value of VALIDITY_TIME that the router of the event has
pub record AreDueRows (event : CheckedEvent) (due : DueRows) : Type 0 where
  pub ordered : AllPairs (λ r t. IsBefore r.dest t.dest) due.rows.now
  pub is_value : IsTimeValue due.validity.now
  pub is_validity : IsValidity event.settings.now.times.topology_hold event.settings.now.near_hold due.validity.now
