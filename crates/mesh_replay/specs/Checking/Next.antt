-- The event that is next, and its line.
use Rattle.std.specs.Prelude.{◌≡◌, ◌<◌, ◌≤◌, ℕ, List, [], length, Option, Some, None, slice_get}
use Rattle.mesh_atoms.specs.declared.addr.Addr4.{Addr4}
use Rattle.mesh_atoms.specs.declared.settings.RadioArc.{RadioArc}
use Rattle.mesh_atoms.specs.declared.settings.RouterSettings.{RouterSettings}
use Rattle.mesh_atoms.specs.declared.settings.Scenario.{Scenario}
use Rattle.mesh_atoms.specs.Settings.{one_hour}
use Rattle.mesh_atoms.specs.State.{State}
use Rattle.mesh_texts.specs.Lines.Marks.{face_name}
use Rattle.mesh_texts.specs.Trace.{heard_line, tick_line}
use Rattle.mesh_trace.specs.machine.Net.{NetState, IsSender}
use Rattle.mesh_trace.specs.machine.NetRun.{IsOver}
use Rattle.mesh_trace.specs.machine.Traffic.{Traffic}
use Rattle.mesh_trace.specs.Positions.Due.{HearsBy, TicksBy}
use Rattle.mesh_trace.specs.Positions.Leading.{LineLeads}
use Rattle.mesh_trace.specs.Positions.Standing.{Item, TracePosition, IsDone, with_state}
use Rattle.mesh_trace.specs.Reading.Lines.{IsLineOf}
use Rattle.mesh_replay.specs.declared.checking.case.Case.{Case}
use Rattle.mesh_replay.specs.declared.checking.case.CheckedEvent.{CheckedEvent}
use Rattle.mesh_replay.specs.declared.checking.case.Progress.{Progress}
use Rattle.mesh_replay.specs.declared.checking.next.ComingFrame.{ComingFrame}
use Rattle.mesh_replay.specs.declared.checking.next.NextEvent.{NextEvent}
use Rattle.mesh_replay.specs.declared.checking.scene.FirstTick.{FirstTick}
use Rattle.mesh_replay.specs.declared.traffic.air.Delivered.{Delivered}
use Rattle.mesh_replay.specs.Checking.Going.{at}
use Rattle.mesh_replay.specs.Checking.Scenes.{IsSoundScene, net_of}

-- the text of the line that opens an event of a router with these settings at that moment: it hears this frame, or ticks
abbrev pub opening_text : RouterSettings → ℕ → Option ComingFrame → List ℕ
opening_text r moment None = tick_line moment r.name
opening_text r moment (Some heard) = heard_line heard.arrival.now r.name (face_name r.interfaces heard.arrival.iface) heard.arrival.sender heard.frame.value

-- what the event does to its router, and what is then to be told
abbrev pub EventBy : ℕ → Option ComingFrame → State → State → List Item → Type 0
EventBy moment None was = TicksBy was moment
EventBy moment (Some heard) was = HearsBy was heard.arrival heard.frame.value

-- a frame comes to an interface of the event's router, at its moment
pub record IsComing (event : CheckedEvent) (heard : ComingFrame) : Type 0 where
  pub now : heard.arrival.now ≡ event.moment
  pub iface : heard.arrival.iface < length event.settings.now.interfaces

-- a frame is heard where its arc leads to
pub record LandsFrame (s : Scenario) (landed : Delivered) (last_ticks : ℕ) (next : NextEvent) : Type 0 where
  pub arc : RadioArc
  pub arc_is : slice_get s.arcs landed.arc ≡ Some arc
  pub sender : Addr4
  pub sender_is : IsSender s.routers arc sender
  pub next_is : next ≡ record {
    router = arc.to;
    moment = landed.moment;
    heard = Some (record { arrival = record { now = landed.moment; iface = arc.to_iface; sender = sender }; frame = landed.frame });
    last_ticks = last_ticks;
  }

-- lines of this text alone lead on from between events: however the event leaves router x, to that network with it
pub record OpensAlone (net : NetState) (y : ℕ) (text : List ℕ) (x : ℕ) (By : State → List Item → Type 0) (after : NetState) : Type 0 where
  pub leads : (line : List ℕ) (is : State) (left : List Item) → IsLineOf line text → By is left → LineLeads (at net y []) line (at (with_state after x is) x left)
  pub only : (line : List ℕ) (q : TracePosition) → LineLeads (at net y []) line q → IsLineOf line text
  pub undone : IsDone (at net y []) → ⊥
  pub stands : (is : State) → slice_get (with_state after x is).routers x ≡ Some is

-- an event is next in a network, and what it hears is out of the air already
pub record IsNextEvent (case : Case) (net : NetState) (flights : Traffic) (next : NextEvent) : Type 0 where
  pub settings : RouterSettings
  pub settings_are : slice_get case.scenario.now.routers next.router ≡ Some settings
  pub early : next.moment ≤ one_hour
  pub few : next.last_ticks ≤ length case.scenario.now.routers
  pub comes : (heard : ComingFrame) → next.heard ≡ Some heard → (heard.arrival.now ≡ next.moment) × (heard.arrival.iface < length settings.interfaces)
  pub opens : (y : ℕ) (was : State) → slice_get net.routers next.router ≡ Some was →
      OpensAlone net y (opening_text was.settings next.moment next.heard) next.router (EventBy next.moment next.heard was)
      (record net { traffic = flights; last_ticks = next.last_ticks })

-- in each network between events that is meant, no event is left, and nothing changed
abbrev pub FindsNone : Case → FirstTick → ℕ → Progress → Progress → Type 0
FindsNone case due last_ticks old new =
    (routers : List State) → IsSoundScene case routers due last_ticks old → IsOver (net_of case routers last_ticks old) × (new ≡ old)

-- in each network between events that is meant, that event is next
abbrev pub FindsNext : Case → FirstTick → ℕ → Progress → Progress → NextEvent → Type 0
FindsNext case due last_ticks old new next =
    (routers : List State) → IsSoundScene case routers due last_ticks old → IsNextEvent case (net_of case routers last_ticks old) new.traffic.traffic next
