-- What an event promises of a router that may put relays and routes off up to a moment.
use Rattle.std.specs.Prelude.{◌≡◌, ◌<◌, ◌≤◌, ℕ, List, Bool, false, Result, is_err, All, OnOk}
use Rattle.mesh_atoms.specs.State.{State}
use Rattle.mesh_core.specs.declared.event.outdated.Outdated.{Outdated}
use Rattle.mesh_core.specs.Deferred.{IsKeptOf, IsSoundButForDerived}
use Rattle.mesh_core.specs.Event.Outdated.{IsCurrent}
use Rattle.mesh_machine.specs.declared.arrival.Arrival.{Arrival}
use Rattle.mesh_machine.specs.declared.frame.Frame.{Frame}
use Rattle.mesh_machine.specs.Machine.{Event, Hear, Step, Tick, due}
use Rattle.mesh_machine.specs.Sendable.{IsSendable}

-- a step from the state `old` sends these frames, and of the state to which it leads `new` is kept, of which so much is outdated
pub record StepsUntil (until : ℕ) (old : State) (event : Event) (sent : List Frame) (outdated : Outdated) (new : State) : Type 0 where
  pub step : (whole : State) × Step old event sent whole × IsKeptOf until whole new
  pub sendable : All (IsSendable old.settings) sent
  pub settings : new.settings ≡ old.settings
  pub sound : IsSoundButForDerived new
  pub current : IsCurrent outdated new

-- a router has heard a frame
pub record HearsUntil (until : ℕ) (old : State) (arrival : Arrival) (bytes : List ℕ) (sent : List Frame) (outdated : Outdated) (new : State) : Type 0 where
  pub steps : StepsUntil until old (Hear arrival bytes) sent outdated new
  pub last : new.last ≤ arrival.now
  pub no_earlier : old.last ≤ new.last
  pub due : due new ≡ due old

-- its clock has ticked
pub record TicksUntil (until : ℕ) (old : State) (now : ℕ) (sent : List Frame) (outdated : Outdated) (new : State) : Type 0 where
  pub steps : StepsUntil until old (Tick now) sent outdated new
  pub last : new.last ≡ now
  pub due : now < due new

-- a router that isn't spent does that, or meets an allocation failure; it is then spent, and so it stays
pub record DoesUnlessSpent {A E : Type 0} (came : Result A E) (was_spent is_spent : Bool) (Does : Type 0) : Type 0 where
  pub does : OnOk came Does
  pub unspent : OnOk came (was_spent ≡ false)
  pub spent : is_spent ≡ is_err came
