-- What the turns of a router are to its machine.
use Rattle.std.specs.Prelude.{◌≡◌, ℕ, [], ◌∷◌, List}
use Rattle.std.specs.List.{flat_map}
use Rattle.mesh_atoms.specs.declared.addr.Addr4.{Addr4}
use Rattle.mesh_atoms.specs.declared.settings.RunSetup.{RunSetup}
use Rattle.mesh_atoms.specs.Sound.{Sound}
use Rattle.mesh_atoms.specs.State.{State}
use Rattle.mesh_io.specs.Airs.{Report}
use Rattle.mesh_io.specs.Airs.Report.{Attached_to, Heard_frame, Heard_silence, Heard_fault, Handed}
use Rattle.mesh_texts.specs.machine.declared.frame.Frame.{Frame}
use Rattle.mesh_texts.specs.machine.Machine.{Event, Hear, Tick, Run}
use Rattle.mesh_run.specs.Turns.Turns.{handed, Position, GoesTo}

-- a frame that is heard: its interface, its sender and its octets
abbrev pub HeardFrame : Type 0
HeardFrame = ℕ × (Addr4 × List ℕ)

-- the frame that a router hears at an event
abbrev pub heard_by : Event → List HeardFrame
heard_by (Hear arrival bytes) = (arrival.iface, (arrival.sender, bytes)) ∷ []
heard_by (Tick now) = []

-- the frame that an air tells
abbrev pub heard_in : Report → List HeardFrame
heard_in (Attached_to local peers) = []
heard_in (Heard_frame iface sender bytes) = (iface, (sender, bytes)) ∷ []
heard_in (Heard_silence iface) = []
heard_in (Heard_fault iface) = []
heard_in (Handed iface bytes answer) = []

-- a run of the router's machine: it hears exactly the frames that the air told, in order, and all that it sends, in order, is what was
-- handed over
pub record IsRunBy (setup : RunSetup) (reports : List Report) (state : State) : Type 0 where
  pub events : List Event
  pub sent : List (List Frame)
  pub run : Run setup.router events sent state
  pub heard : flat_map heard_by events ≡ flat_map heard_in reports
  pub are_handed : flat_map (λ frames. frames) sent ≡ flat_map handed reports

-- wherever a router stands in its turns, it has come there by a run of its machine
abbrev pub TurnsAreRuns : Type 0
TurnsAreRuns =
    (setup : RunSetup) (moments : List ℕ) (reports : List Report) (position : Position) →
    GoesTo setup moments reports position → IsRunBy setup reports position.state

-- and it is sound
abbrev pub TurnsKeepSound : Type 0
TurnsKeepSound =
    (setup : RunSetup) (moments : List ℕ) (reports : List Report) (position : Position) →
    GoesTo setup moments reports position → Sound position.state
