-- What the parts of a turn do, as the functions of this crate say it to one another.
use Rattle.std.specs.Prelude.{◌≡◌, ℕ, ◌+◌, ◌≤◌, max, [], ◌∷◌, ◌++◌, List, length, Option, Some}
use Rattle.std.specs.List.{count_by}
use Rattle.mesh_atoms.specs.declared.settings.Port.{Port}
use Rattle.mesh_atoms.specs.State.{State}
use Rattle.mesh_core.specs.Deferred.{IsKeptOf}
use Rattle.mesh_io.specs.Airs.{Report, AttachesInterface, IsAttachCaused}
use Rattle.mesh_io.specs.Told.{TellsMore}
use Rattle.mesh_io.specs.declared.airs.Attached.{Attached}
use Rattle.mesh_texts.specs.machine.declared.frame.Frame.{Frame}
use Rattle.mesh_texts.specs.machine.Machine.{Event}
use Rattle.mesh_run.specs.declared.turns.tally.Tally.{Tally}
use Rattle.mesh_run.specs.Turns.Turns.{ear_of, heard_at, AreHanded, DoesEvent, Position, RunsTurns, CameToNothing, is_heard, is_sent, is_fault, greatest_of}

-- an attach of a port, with its cause
pub record AttachesPort (before now : ℕ) (log log' : Option (List Report)) (faults faults' : ℕ) (port : Port) (answer : Attached) :
    Type 0 where
  pub attaches : AttachesInterface before now log log' port.local port.peers answer
  pub cause : IsAttachCaused faults faults' answer

-- a router that can take an event at that moment, over an air with its interfaces
pub record IsReady (state : State) (attached now : ℕ) : Type 0 where
  pub last : state.last ≤ now
  pub attached_are : attached ≡ length state.settings.interfaces

-- a frame of nothing
abbrev pub no_frame : Frame
no_frame = record { iface = 0; bytes = [] }

-- the counts after these reports
abbrev pub counted : Tally → List Report → Tally
counted tally reports = record {
  heard = tally.heard + count_by is_heard reports;
  sent = tally.sent + count_by is_sent reports;
  faults = tally.faults + count_by is_fault reports;
}

-- these frames were handed over in order
pub record Hands (frames : List Frame) (log log' : Option (List Report)) (tally tally' : Tally) : Type 0 where
  pub reports : List Report
  pub tells : TellsMore log log' reports
  pub are_handed : AreHanded frames reports
  pub counts : tally' ≡ counted tally reports

-- What is done where routes and relays may be put off: the states between are those that are kept

-- an event, where there is one, and then what it sends is handed over; of the state after it, this is kept
abbrev pub KeepsEvent : ℕ → State → Option Event → List Report → State → Type 0
KeepsEvent until old event reports new = (whole : State) × DoesEvent old event reports whole × IsKeptOf until whole new

-- an event was done, where there is one, and its frames were handed over
pub record Acts (end : ℕ) (old : State) (event : Option Event) (new : State) (log log' : Option (List Report)) (tally tally' : Tally) :
    Type 0 where
  pub reports : List Report
  pub tells : TellsMore log log' reports
  pub does : KeepsEvent end old event reports new
  pub counts : tally' ≡ counted tally reports

-- an interface was heard at that moment, and what came of it
pub record HearsInterface (end now iface : ℕ) (old new : State) (log log' : Option (List Report)) (tally tally' : Tally) : Type 0 where
  pub ear : Report
  pub reports : List Report
  pub tells : TellsMore log log' (ear ∷ reports)
  pub heard : ear_of ear ≡ Some iface
  pub does : KeepsEvent end old (heard_at now ear) reports new
  pub counts : tally' ≡ counted tally (ear ∷ reports)

-- an interface was heard, and nothing came of it
pub record HearsInVain (iface : ℕ) (log log' : Option (List Report)) : Type 0 where
  pub ear : Report
  pub tells : TellsMore log log' (ear ∷ [])
  pub heard : ear_of ear ≡ Some iface

-- a position
abbrev pub at : State → ℕ → ℕ → Position
at state moment next = record { state = state; moment = moment; next = next }

-- from one position to another by these moments
pub record Going (end count : ℕ) (start stop : Position) (moments : List ℕ) (log log' : Option (List Report)) (tally tally' : Tally) :
    Type 0 where
  pub reports : List Report
  pub tells : TellsMore log log' reports
  pub goes : RunsTurns (KeepsEvent end) end count start moments reports stop
  pub counts : tally' ≡ counted tally reports

-- from a position on by the first of these moments, where an allocation failure stopped it
pub record Broken (end count : ℕ) (start : Position) (moments : List ℕ) (log log' : Option (List Report)) : Type 0 where
  pub first_moments : List ℕ
  pub first_reports : List Report
  pub position : Position
  pub goes : RunsTurns (KeepsEvent end) end count start first_moments first_reports position
  pub lost_moments : List ℕ
  pub lost_reports : List Report
  pub is_lost : CameToNothing count position lost_moments lost_reports
  pub moments_are : moments ≡ first_moments ++ lost_moments
  pub tells : TellsMore log log' (first_reports ++ lost_reports)

-- turns in order: their number, and the greatest moment told, before them and after
pub record Turning (end count : ℕ) (start stop : Position) (turns before after : ℕ) (clock clock' : Option (List ℕ))
    (log log' : Option (List Report)) (tally tally' : Tally) : Type 0 where
  pub moments : List ℕ
  pub clock_tells : TellsMore clock clock' moments
  pub turns_are : turns ≡ length moments
  pub greatest_is : after ≡ max before (greatest_of moments)
  pub going : Going end count start stop moments log log' tally tally'

-- turns, at most so many with the one that an allocation failure stopped
pub record Stopped (most end count : ℕ) (start : Position) (clock clock' : Option (List ℕ)) (log log' : Option (List Report)) :
    Type 0 where
  pub moments : List ℕ
  pub clock_tells : TellsMore clock clock' moments
  pub within : length moments ≤ most
  pub broken : Broken end count start moments log log'
