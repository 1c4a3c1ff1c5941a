-- The runs of an emulated network, and what each of its routers comes through.
use Rattle.std.specs.Prelude.{◌≡◌, ℕ, ◌<◌, ◌∷◌, [], List, Some, slice_get, length, map, All, IfSome, nat_eq}
use Rattle.std.specs.List.{filter}
use Rattle.mesh_atoms.specs.declared.settings.RouterSettings.{RouterSettings}
use Rattle.mesh_atoms.specs.declared.settings.Scenario.{Scenario}
use Rattle.mesh_atoms.specs.Sound.{Sound}
use Rattle.mesh_atoms.specs.State.{State}
use Rattle.mesh_machine.specs.Machine.{IsOpening, Run}
use Rattle.mesh_machine.specs.Sendable.{IsPacket}
use Rattle.mesh_atoms.specs.declared.network.NetEvent.{NetEvent}
use Rattle.mesh_machine.specs.Net.{NetState, NetStep, HasOnlyLastTicks, event_of, frames_of}

-- a network before its first event: each router is in its opening state, nothing is in the air, and all numbers are 0
pub record IsOpeningNet (scenario : Scenario) (net : NetState) : Type 0 where
  pub scenario_is : net.scenario ≡ scenario
  pub count : length net.routers ≡ length scenario.routers
  pub opening : (x : ℕ) (settings : RouterSettings) (state : State) →
      slice_get scenario.routers x ≡ Some settings → slice_get net.routers x ≡ Some state → IsOpening settings state
  pub traffic : net.traffic ≡ record { air = []; counts = record { sent = 0; delivered = 0; lost = 0 }; draws = 0 }
  pub last_ticks : net.last_ticks ≡ 0

-- every event up to the end was done, and each router had its last tick
pub record IsOver (net : NetState) : Type 0 where
  pub only : HasOnlyLastTicks net
  pub last_ticks : net.last_ticks ≡ length net.routers

-- these events in order
abbrev pub NetRun : NetState → List NetEvent → NetState → Type 0
NetRun old [] new = new ≡ old
NetRun old (event ∷ events) new = (mid : NetState) × NetStep old event mid × NetRun mid events new

-- What an event names

-- the event is of a router of the scenario, on interfaces of that router, and loses frames on arcs of the scenario
pub record IsOfScenario (scenario : Scenario) (event : NetEvent) : Type 0 where
  pub settings : RouterSettings
  pub router : slice_get scenario.routers event.router ≡ Some settings
  pub heard : IfSome event.heard (λ h. h.0 < length settings.interfaces)
  pub sent : All (λ e. e.iface < length settings.interfaces) event.sent
  pub lost : All (λ e. All (λ n. n < length scenario.arcs) e.lost) event.sent

-- what is heard spells a packet, and so does each frame that is sent
pub record IsOfPackets (event : NetEvent) : Type 0 where
  pub heard : IfSome event.heard (λ h. IsPacket h.2)
  pub sent : All (λ e. IsPacket e.frame) event.sent

-- What each router comes through

-- the events of router x among those of a network, in order
abbrev pub events_at : ℕ → List NetEvent → List NetEvent
events_at x events = filter (λ e. nat_eq e.router x) events

-- in every run of a network from its opening, each router is a run of the machine with its settings: from its opening state it has
-- come through the events of the network that are its own, in their order, and at each it has sent what the event says
abbrev pub AreMachines : Type 0
AreMachines =
    (scenario : Scenario) (opening : NetState) (events : List NetEvent) (net : NetState) → IsOpeningNet scenario opening → NetRun opening events net →
    (x : ℕ) (settings : RouterSettings) → slice_get scenario.routers x ≡ Some settings →
    (state : State) × (slice_get net.routers x ≡ Some state)
    × Run settings (map event_of (events_at x events)) (map frames_of (events_at x events)) state

-- where such a run is over, all routers are sound at one moment, the end
abbrev pub EndTogether : Type 0
EndTogether =
    (scenario : Scenario) (opening : NetState) (events : List NetEvent) (net : NetState) → IsOpeningNet scenario opening → NetRun opening events net →
    IsOver net → (x : ℕ) (state : State) → slice_get net.routers x ≡ Some state → Sound state × (state.last ≡ scenario.end)
