-- An emulated network as it is kept, and what is true of it between events.
use Rattle.std.specs.Prelude.{◌≡◌, ℕ, ◌+◌, ◌<◌, ◌≤◌, min, List, Option, Some, None, All, slice_get, slice_set, length}
use Rattle.mesh_atoms.specs.declared.settings.Scenario.{Scenario}
use Rattle.mesh_atoms.specs.declared.addr.Addr4.{Addr4}
use Rattle.mesh_atoms.specs.declared.settings.RadioArc.{RadioArc}
use Rattle.mesh_atoms.specs.Sound.{Sound}
use Rattle.mesh_atoms.specs.State.{State}
use Rattle.mesh_machine.specs.declared.frame.Frame.{Frame}
use Rattle.mesh_machine.specs.Machine.{Event, Step, due}
use Rattle.mesh_machine.specs.Sendable.{IsPacket, IsSendable}
use Rattle.mesh_core.specs.Deferred.{IsKeptOf}
use Rattle.mesh_atoms.specs.declared.network.NetEvent.{NetEvent}
use Rattle.mesh_radio.specs.declared.scene.Scene.{Scene}
use Rattle.mesh_radio.specs.declared.scene.Tick.{Tick}
use Rattle.mesh_machine.specs.Net.{NetState, NetStep, IsFirstDue, IsSender, event_of, frames_of}
use Rattle.mesh_machine.specs.Traffic.{Delivery, Traffic, SendsAll, with_heard}
use Rattle.mesh_machine.specs.NetRun.{IsOver, IsOfScenario, IsOfPackets, NetRun}
use Rattle.mesh_radio.specs.Traffic.Traffic.{traffic_of}
use Rattle.mesh_machine.specs.Ways.{AreArcsOut}

-- the network that is meant
abbrev pub net_of : List State → Scene → NetState
net_of routers s = record { scenario = s.scenario; routers = routers; traffic = traffic_of s.traffic; last_ticks = s.last_ticks }

-- a frame that is heard no earlier than now, by an arc of the scenario, and spells a packet
pub record IsFlying (scenario : Scenario) (now : ℕ) (d : Delivery) : Type 0 where
  pub later : now ≤ d.moment
  pub arc : d.arc < length scenario.arcs
  pub packet : IsPacket d.frame

-- the routers of a scenario, none of which had an event after now
pub record AreRouterStates (scenario : Scenario) (now : ℕ) (routers : List State) : Type 0 where
  pub count : length routers ≡ length scenario.routers
  pub settings : (x : ℕ) (s : State) → slice_get routers x ≡ Some s → slice_get scenario.routers x ≡ Some s.settings
  pub lasts : (x : ℕ) (s : State) → slice_get routers x ≡ Some s → s.last ≤ now

-- routers with all that follows from their bases, and what is kept of them, router by router
pub record AreKeptOf (until : ℕ) (wholes rests : List State) : Type 0 where
  pub count : length wholes ≡ length rests
  pub each : (x : ℕ) (whole rest : State) → slice_get wholes x ≡ Some whole → slice_get rests x ≡ Some rest → IsKeptOf until whole rest

-- the first routers, so many, had their tick at the end
abbrev pub HadLastTicks : ℕ → ℕ → List State → Type 0
HadLastTicks end count routers = (x : ℕ) (state : State) → slice_get routers x ≡ Some state → x < count → end ≤ state.last

-- what is true between events
pub record IsSound (routers : List State) (s : Scene) : Type 0 where
  pub ways : AreArcsOut s.scenario.arcs s.scenario.routers (length s.scenario.routers) s.ways
  pub are_routers : AreRouterStates s.scenario s.now routers
  pub seed : s.traffic.draws.seed ≡ s.scenario.seed
  pub flying : All (IsFlying s.scenario s.now) s.traffic.air
  pub due : IsFirstDue routers s.due.router s.due.moment
  pub due_later : s.now ≤ s.due.moment
  pub in_time : s.now ≤ s.scenario.end
  pub few : s.last_ticks ≤ length routers
  pub ended : HadLastTicks s.scenario.end s.last_ticks routers

-- how the moments of a router change where it hears a frame
abbrev pub KeepsDue : State → State → Type 0
KeepsDue was is = due is ≡ due was

-- and where it ticks
pub record IsAfterTick (now : ℕ) (was is : State) : Type 0 where
  pub due_later : now < due is
  pub last_is : is.last ≡ now

-- router x alone took a step, and sent these frames; what is kept of it from that moment on, and how its moments changed
pub record Stepped (until : ℕ) (old new : List State) (x now : ℕ) (event : Event) (frames : List Frame) (Change : State → State → Type 0) :
    Type 0 where
  pub was : State
  pub whole : State
  pub is : State
  pub stood : slice_get old x ≡ Some was
  pub routers : new ≡ slice_set old x is
  pub step : Step was event frames whole
  pub rest : IsKeptOf until whole is
  pub sendable : All (IsSendable was.settings) frames
  pub settings : is.settings ≡ was.settings
  pub last : is.last ≤ now
  pub no_earlier : was.last ≤ is.last
  pub change : Change was is

-- what a frame that was in the air does, where the traffic is what is left
pub record Lands (until : ℕ) (s : Scenario) (old new : List State) (d : Delivery) (event : NetEvent) (before after : Traffic) : Type 0 where
  pub arc : RadioArc
  pub sender : Addr4
  pub arc_is : slice_get s.arcs d.arc ≡ Some arc
  pub sender_is : IsSender s.routers arc sender
  pub moment : event.moment ≡ d.moment
  pub router : event.router ≡ arc.to
  pub heard : event.heard ≡ Some (arc.to_iface, sender, d.frame)
  pub stepped : Stepped until old new arc.to d.moment (event_of event) (frames_of event) KeepsDue
  pub sends : SendsAll s d.moment arc.to event.sent (with_heard before before.air) after

-- what the tick of router x does
pub record TicksOne (until : ℕ) (s : Scenario) (old new : List State) (x now : ℕ) (event : NetEvent) (before after : Traffic) : Type 0 where
  pub moment : event.moment ≡ now
  pub router : event.router ≡ x
  pub heard : event.heard ≡ None
  pub stepped : Stepped until old new x now (event_of event) (frames_of event) (IsAfterTick now)
  pub sends : SendsAll s now x event.sent before after

-- but for what a router sent and the traffic all stays
abbrev pub SendsAlone : Scene → Scene → Type 0
SendsAlone before after = after ≡ record before { outbox = after.outbox; traffic = after.traffic }

-- nothing that is in the air is heard up to the first tick and the end
abbrev pub IsAirQuiet : Scene → Type 0
IsAirQuiet s = All (λ d. min s.due.moment s.scenario.end < d.moment) s.traffic.air

-- a tick that is next: of the router that is due first, no later than the end, or else the next of the ticks at the end
pub data IsNextTick (s : Scene) (tick : Tick) : Type 0 where
  Due_first : s.due.moment ≤ s.scenario.end → tick ≡ record { router = s.due.router; moment = s.due.moment; last_ticks = s.last_ticks } → IsNextTick s tick
  At_end : s.scenario.end < s.due.moment → s.last_ticks < length s.scenario.routers →
      tick ≡ record { router = s.last_ticks; moment = s.scenario.end; last_ticks = s.last_ticks + 1 } → IsNextTick s tick

-- no tick is left
abbrev pub HasNoTick : Scene → Type 0
HasNoTick s = (s.scenario.end < s.due.moment) × (length s.scenario.routers ≤ s.last_ticks)

-- an event of a network: what it does and names, what is kept of the routers to which it leads, and that the network is sound after it
pub record Happens (until : ℕ) (old : List State) (before : Scene) (event : NetEvent) (new : List State) (after : Scene) : Type 0 where
  pub reached : List State
  pub step : NetStep (net_of old before) event (net_of reached after)
  pub rest : AreKeptOf until reached new
  pub named : IsOfScenario before.scenario event
  pub packets : IsOfPackets event
  pub sound : IsSound new after

-- no event is left, and the network stays as it was, and sound
pub record IsLeft (old : List State) (before : Scene) (new : List State) (after : Scene) : Type 0 where
  pub over : IsOver (net_of old before) × (net_of new after ≡ net_of old before)
  pub sound : IsSound new after

-- each router is sound
abbrev pub AreSoundStates : List State → Type 0
AreSoundStates routers = (x : ℕ) (state : State) → slice_get routers x ≡ Some state → Sound state

-- some events lead from a network to one whose run is over, which is sound, and so is each of its routers
pub record RunsOver (old : List State) (before : Scene) (new : List State) (after : Scene) : Type 0 where
  pub events : List NetEvent
  pub run : NetRun (net_of old before) events (net_of new after)
  pub over : IsOver (net_of new after)
  pub sound : IsSound new after
  pub sounds : AreSoundStates new

-- what is told of the next event, if there is one
abbrev pub TellsEvent : ℕ → List State → Scene → List State → Scene → Option NetEvent → Type 0
TellsEvent until old before new after None = IsLeft old before new after
TellsEvent until old before new after (Some event) = Happens until old before event new after

-- nothing is heard next, and all stays as it was
pub record AllStays (old : List State) (before : Scene) (new : List State) (after : Scene) : Type 0 where
  pub routers : new ≡ old
  pub scene : after ≡ before
  pub quiet : IsAirQuiet before
