-- The turns of a running router: what it does by what a clock and an air tell it.
use Rattle.std.specs.Prelude.{◌≡◌, ℕ, ◌+◌, ◌-◌, ◌^◌, ◌<◌, ◌≤◌, min, max, nat_le, Bool, true, false, [], ◌∷◌, ◌++◌, List, length, map, Option, Some, None, if◌then◌else◌}
use Rattle.std.specs.List.{count_by}
use Rattle.mesh_atoms.specs.declared.settings.Port.{Port}
use Rattle.mesh_atoms.specs.declared.settings.RunSetup.{RunSetup}
use Rattle.mesh_atoms.specs.State.{State}
use Rattle.mesh_io.specs.Airs.{Report}
use Rattle.mesh_io.specs.Airs.Report.{Attached_to, Heard_frame, Heard_silence, Heard_fault, Handed}
use Rattle.mesh_io.specs.declared.airs.Sent.TheVariants as sent
use Rattle.mesh_io.specs.Told.{TellsMore}
use Rattle.mesh_texts.specs.machine.declared.frame.Frame.{Frame}
use Rattle.mesh_texts.specs.machine.Machine.{Event, Hear, Tick, Step, IsOpening, due}
use Rattle.mesh_run.specs.declared.turns.tally.Ended.{Ended}
use Rattle.mesh_run.specs.declared.turns.tally.Tally.{Tally}

-- What an air tells of a call

-- the port that was attached
abbrev pub attached_report : Port → Report
attached_report port = Attached_to port.local port.peers

-- the interface that was heard
abbrev pub ear_of : Report → Option ℕ
ear_of (Attached_to local peers) = None
ear_of (Heard_frame iface sender bytes) = Some iface
ear_of (Heard_silence iface) = Some iface
ear_of (Heard_fault iface) = Some iface
ear_of (Handed iface bytes answer) = None

-- what was heard, as an event of a router at that moment: a frame; else there is none
abbrev pub heard_at : ℕ → Report → Option Event
heard_at now (Attached_to local peers) = None
heard_at now (Heard_frame iface sender bytes) = Some (Hear (record { now = now; iface = iface; sender = sender }) bytes)
heard_at now (Heard_silence iface) = None
heard_at now (Heard_fault iface) = None
heard_at now (Handed iface bytes answer) = None

-- the frame that was handed over, whatever was answered
abbrev pub handed : Report → List Frame
handed (Attached_to local peers) = []
handed (Heard_frame iface sender bytes) = []
handed (Heard_silence iface) = []
handed (Heard_fault iface) = []
handed (Handed iface bytes answer) = (record { iface = iface; bytes = bytes }) ∷ []

-- each report is of one of these frames, handed over, in order
abbrev pub AreHanded : List Frame → List Report → Type 0
AreHanded frames reports = map handed reports ≡ map (λ frame. frame ∷ []) frames

-- What a router does

-- an event, where there is one, and then what it sends is handed over
abbrev pub DoesEvent : State → Option Event → List Report → State → Type 0
DoesEvent old None reports new = (reports ≡ []) × (new ≡ old)
DoesEvent old (Some event) reports new = (frames : List Frame) × Step old event frames new × AreHanded frames reports

-- the moment of a turn: no earlier than that of the last one, and below 2 ^ 62
abbrev pub moment_of : ℕ → ℕ → ℕ
moment_of last told = min (max last told) (2 ^ 62 - 1)

-- the tick of a turn at that moment: at the end, where the end has come; else at the moment, where the router is due
abbrev pub tick_of : ℕ → ℕ → State → Option Event
tick_of end now state =
    if nat_le end now then Some (Tick end) else if nat_le (due state) now then Some (Tick now) else None

-- Turns

-- where a running router stands: its state, the moment of its turn, and the interface that it hears next; between turns that is
-- their number
pub record Position : Type 0 where
  pub state : State
  pub moment : ℕ
  pub next : ℕ

-- a turn begins: the clock tells a moment, and the router ticks where it is due. The turn at the end hears nothing. Does says what an event
-- does, where there is one
pub record BeginsTurn (Does : State → Option Event → List Report → State → Type 0) (end count : ℕ) (old : Position) (told : ℕ)
    (reports : List Report) (new : Position) : Type 0 where
  pub between : old.next ≡ count
  pub going : old.moment < end
  pub moment : new.moment ≡ moment_of old.moment told
  pub does : Does old.state (tick_of end new.moment old.state) reports new.state
  pub next : new.next ≡ (if nat_le end new.moment then count else 0)

-- the next interface is heard once; a frame is an event of the router at the moment of the turn
pub record Listens (Does : State → Option Event → List Report → State → Type 0) (count : ℕ) (old : Position) (ear : Report)
    (reports : List Report) (new : Position) : Type 0 where
  pub within : old.next < count
  pub heard : ear_of ear ≡ Some old.next
  pub does : Does old.state (heard_at old.moment ear) reports new.state
  pub moment : new.moment ≡ old.moment
  pub next : new.next ≡ old.next + 1

-- from one position to another by these moments that the clock tells, and these reports of the air
pub data RunsTurns (Does : State → Option Event → List Report → State → Type 0) (end count : ℕ) (start : Position) :
    List ℕ → List Report → Position → Type 0 where
  Stays : RunsTurns Does end count start [] [] start
  Then_begins : {moments : List ℕ} {reports more : List Report} {mid new : Position} {told : ℕ} →
      RunsTurns Does end count start moments reports mid → BeginsTurn Does end count mid told more new →
      RunsTurns Does end count start (moments ++ told ∷ []) (reports ++ more) new
  Then_listens : {moments : List ℕ} {reports more : List Report} {mid new : Position} {ear : Report} →
      RunsTurns Does end count start moments reports mid → Listens Does count mid ear more new →
      RunsTurns Does end count start moments (reports ++ ear ∷ more) new

-- the router of a setup goes from its opening state, at moment 0, to that position
pub record GoesTo (setup : RunSetup) (moments : List ℕ) (reports : List Report) (position : Position) : Type 0 where
  pub opening : State
  pub is_opening : IsOpening setup.router opening
  pub goes : RunsTurns DoesEvent setup.end (length setup.ports) (record { state = opening; moment = 0; next = length setup.ports }) moments
      reports position

-- whole turns of the router of a setup, one for each moment, after which it has that state. The last alone may be at the end
abbrev pub Turns : RunSetup → List ℕ → List Report → ℕ → State → Type 0
Turns setup moments reports now state =
    GoesTo setup moments reports (record { state = state; moment = now; next = length setup.ports })

-- Where an allocation fails

-- what was told last and came to nothing: nothing; or the moment of a turn; or what the next interface heard
pub data CameToNothing (count : ℕ) (position : Position) : List ℕ → List Report → Type 0 where
  Nothing : CameToNothing count position [] []
  A_moment : (told : ℕ) → position.next ≡ count → CameToNothing count position (told ∷ []) []
  An_ear : (ear : Report) → position.next < count → ear_of ear ≡ Some position.next → CameToNothing count position [] (ear ∷ [])

-- the router of a setup goes to some position by the first of these moments and reports; of them the last may be lost
pub record TurnsStopShort (setup : RunSetup) (moments : List ℕ) (reports : List Report) : Type 0 where
  pub first_moments : List ℕ
  pub first_reports : List Report
  pub position : Position
  pub goes : GoesTo setup first_moments first_reports position
  pub lost_moments : List ℕ
  pub lost_reports : List Report
  pub is_lost : CameToNothing (length setup.ports) position lost_moments lost_reports
  pub moments_are : moments ≡ first_moments ++ lost_moments
  pub reports_are : reports ≡ first_reports ++ lost_reports

-- What is counted

-- a frame was heard
abbrev pub is_heard : Report → Bool
is_heard (Attached_to local peers) = false
is_heard (Heard_frame iface sender bytes) = true
is_heard (Heard_silence iface) = false
is_heard (Heard_fault iface) = false
is_heard (Handed iface bytes answer) = false

-- a frame was sent
abbrev pub is_sent : Report → Bool
is_sent (Attached_to local peers) = false
is_sent (Heard_frame iface sender bytes) = false
is_sent (Heard_silence iface) = false
is_sent (Heard_fault iface) = false
is_sent (Handed iface bytes sent.Done) = true
is_sent (Handed iface bytes sent.Failed) = false

-- hearing or sending failed
abbrev pub is_fault : Report → Bool
is_fault (Attached_to local peers) = false
is_fault (Heard_frame iface sender bytes) = false
is_fault (Heard_silence iface) = false
is_fault (Heard_fault iface) = true
is_fault (Handed iface bytes sent.Done) = false
is_fault (Handed iface bytes sent.Failed) = true

-- the greatest of moments, 0 where there are none
abbrev pub greatest_of : List ℕ → ℕ
greatest_of [] = 0
greatest_of (moment ∷ more) = max moment (greatest_of more)

-- what is counted of what an air tells
abbrev pub tally_of : List Report → Tally
tally_of reports = record {
  heard = count_by is_heard reports;
  sent = count_by is_sent reports;
  faults = count_by is_fault reports;
}

-- what is known of turns by these moments and reports
abbrev pub ended_by : List ℕ → List Report → Ended
ended_by moments reports = record { turns = length moments; greatest = greatest_of moments; tally = tally_of reports }

-- What a call was told

-- turns of the router of a setup, by what a clock and an air told in a call: the state after them, and what is known of them
pub record DoesTurns (setup : RunSetup) (state : State) (ended : Ended) (clock clock' : Option (List ℕ))
    (air air' : Option (List Report)) : Type 0 where
  pub moments : List ℕ
  pub reports : List Report
  pub clock_tells : TellsMore clock clock' moments
  pub air_tells : TellsMore air air' reports
  pub turns : Turns setup moments reports (moment_of 0 ended.greatest) state
  pub ended_is : ended ≡ ended_by moments reports

-- the same, where an allocation failure stopped it in one of at most so many turns, or behind them
pub record StopsTurns (setup : RunSetup) (most : ℕ) (clock clock' : Option (List ℕ)) (air air' : Option (List Report)) : Type 0 where
  pub moments : List ℕ
  pub reports : List Report
  pub clock_tells : TellsMore clock clock' moments
  pub air_tells : TellsMore air air' reports
  pub within : length moments ≤ most
  pub stops : TurnsStopShort setup moments reports
