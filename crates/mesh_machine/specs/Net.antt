-- An emulated network: routers, and frames in the air between them. Which event comes next, and what it does.
use Rattle.std.specs.Prelude.{◌≡◌, ℕ, ◌+◌, ◌<◌, ◌≤◌, List, Option, Some, None, All, slice_get, slice_set, length, map}
use Rattle.mesh_atoms.specs.declared.addr.Addr4.{Addr4}
use Rattle.mesh_atoms.specs.declared.settings.Interface.{Interface}
use Rattle.mesh_atoms.specs.declared.settings.RadioArc.{RadioArc}
use Rattle.mesh_atoms.specs.declared.settings.RouterSettings.{RouterSettings}
use Rattle.mesh_atoms.specs.declared.settings.Scenario.{Scenario}
use Rattle.mesh_atoms.specs.State.{State}
use Rattle.mesh_machine.specs.declared.frame.Frame.{Frame}
use Rattle.mesh_machine.specs.Machine.{Event, Hear, Tick, Step, due}
use Rattle.mesh_machine.specs.Traffic.{Delivery, Traffic, frame_of, with_heard, SendsAll, IsHeardFirst}
use Rattle.mesh_atoms.specs.declared.network.NetEvent.{NetEvent}

-- a network at a moment
pub record NetState : Type 0 where
  pub scenario : Scenario
  pub routers : List State
  pub traffic : Traffic
  pub last_ticks : ℕ  -- how many routers had their tick at the end

-- What an event is to its router

-- a frame that is heard, or a tick
abbrev pub happening : ℕ → Option (ℕ × Addr4 × List ℕ) → Event
happening now None = Tick now
happening now (Some (iface, sender, frame)) = Hear (record { now = now; iface = iface; sender = sender }) frame

-- the event of the machine
abbrev pub event_of : NetEvent → Event
event_of event = happening event.moment event.heard

-- the frames that are sent at an event, in order
abbrev pub frames_of : NetEvent → List Frame
frames_of event = map frame_of event.sent

-- Which event comes next

-- of the routers, the least due moment, and there the first
pub record IsFirstDue (routers : List State) (x moment : ℕ) : Type 0 where
  pub state : State
  pub stands : slice_get routers x ≡ Some state
  pub is : moment ≡ due state
  pub no_earlier : (y : ℕ) (s : State) → slice_get routers y ≡ Some s → moment ≤ due s
  pub later : (y : ℕ) (s : State) → slice_get routers y ≡ Some s → y < x → moment < due s

-- a frame is heard next: no later than the end, and than each tick
pub record HearsNext (net : NetState) (d : Delivery) (others : List Delivery) : Type 0 where
  pub first : IsHeardFirst net.traffic.air d others
  pub in_time : d.moment ≤ net.scenario.end
  pub before_ticks : All (λ s. d.moment ≤ due s) net.routers

-- router x ticks next: no later than the end, and before all that is in the air
pub record TicksNext (net : NetState) (x moment : ℕ) : Type 0 where
  pub first : IsFirstDue net.routers x moment
  pub in_time : moment ≤ net.scenario.end
  pub before_frames : All (λ d. moment < d.moment) net.traffic.air

-- nothing is left up to the end but the last ticks
pub record HasOnlyLastTicks (net : NetState) : Type 0 where
  pub no_frames : All (λ d. net.scenario.end < d.moment) net.traffic.air
  pub no_ticks : All (λ s. net.scenario.end < due s) net.routers

-- One event

-- the router of the event alone takes the step that the event is to it, and what it sends goes into the air
pub record Moves (old : NetState) (event : NetEvent) (before : Traffic) (new : NetState) : Type 0 where
  pub was : State
  pub is : State
  pub stood : slice_get old.routers event.router ≡ Some was
  pub step : Step was (event_of event) (frames_of event) is
  pub routers : new.routers ≡ slice_set old.routers event.router is
  pub sends : SendsAll old.scenario event.moment event.router event.sent before new.traffic
  pub scenario : new.scenario ≡ old.scenario

-- the first address of the interface that an arc leaves
pub record IsSender (routers : List RouterSettings) (arc : RadioArc) (sender : Addr4) : Type 0 where
  pub router : RouterSettings
  pub face : Interface
  pub router_is : slice_get routers arc.from ≡ Some router
  pub face_is : slice_get router.interfaces arc.from_iface ≡ Some face
  pub address : slice_get face.addrs 0 ≡ Some sender

-- the frame that is next is heard where its arc leads to
pub record Delivers (old : NetState) (event : NetEvent) (new : NetState) : Type 0 where
  pub delivery : Delivery
  pub others : List Delivery
  pub arc : RadioArc
  pub sender : Addr4
  pub next : HearsNext old delivery others
  pub arc_is : slice_get old.scenario.arcs delivery.arc ≡ Some arc
  pub sender_is : IsSender old.scenario.routers arc sender
  pub moment : event.moment ≡ delivery.moment
  pub router : event.router ≡ arc.to
  pub heard : event.heard ≡ Some (arc.to_iface, sender, delivery.frame)
  pub moves : Moves old event (with_heard old.traffic others) new
  pub last_ticks : new.last_ticks ≡ old.last_ticks

-- the router that is next ticks as it is due
pub record TicksDue (old : NetState) (event : NetEvent) (new : NetState) : Type 0 where
  pub next : TicksNext old event.router event.moment
  pub heard : event.heard ≡ None
  pub moves : Moves old event old.traffic new
  pub last_ticks : new.last_ticks ≡ old.last_ticks

-- the next router has its tick at the end
pub record TicksLast (old : NetState) (event : NetEvent) (new : NetState) : Type 0 where
  pub only : HasOnlyLastTicks old
  pub some : old.last_ticks < length old.routers
  pub moment : event.moment ≡ old.scenario.end
  pub router : event.router ≡ old.last_ticks
  pub heard : event.heard ≡ None
  pub moves : Moves old event old.traffic new
  pub last_ticks : new.last_ticks ≡ old.last_ticks + 1

-- one event of a network
pub data NetStep (old : NetState) (event : NetEvent) (new : NetState) : Type 0 where
  By_delivery : Delivers old event new → NetStep old event new
  By_tick : TicksDue old event new → NetStep old event new
  By_last_tick : TicksLast old event new → NetStep old event new
