-- What an event promises of a router of which not all may have been wanted.
use Rattle.std.specs.Prelude.{◌≡◌, ◌<◌, ◌≤◌, ◌++◌, ℕ, List, length, take, Bool, Result, All, OnOk, OnErr}
use Rattle.mesh_atoms.specs.State.{State}
use Rattle.mesh_core.specs.declared.event.outdated.Outdated.{Outdated}
use Rattle.mesh_core.specs.declared.event.outdated.EventWants.{EventWants}
use Rattle.mesh_core.specs.Deferred.{IsSoundButForDerived}
use Rattle.mesh_core.specs.Event.Outdated.{IsCurrent, KeepsWanted}
use Rattle.mesh_bases.specs.Held.Taking.{kept_fates}
use Rattle.mesh_machine.specs.declared.arrival.Arrival.{Arrival}
use Rattle.mesh_machine.specs.declared.fate.Heard.{Heard}
use Rattle.mesh_machine.specs.declared.fate.Heard.TheVariants as heard
use Rattle.mesh_machine.specs.declared.frame.Frame.{Frame}
use Rattle.mesh_machine.specs.Frames.{sent_since}
use Rattle.mesh_machine.specs.Machine.{Hears, TicksAt, due}
use Rattle.mesh_machine.specs.Sendable.{IsSendable}

-- a router with this state, of which so much is outdated, is ready to hear a frame that arrives so: no earlier than its last event, on one of its
-- interfaces
pub record IsReadyToHear (outdated : Outdated) (s : State) (arrival : Arrival) : Type 0 where
  pub later : s.last ≤ arrival.now
  pub iface : arrival.iface < length s.settings.interfaces
  pub sound : IsSoundButForDerived s
  pub current : IsCurrent outdated s

-- a router with the state `old` has heard a frame and answered it; `out`, which had the frames `before`, has the frames `after`; and `new` is
-- left, of which so much is outdated
pub record HearsTo (wants : EventWants) (old : State) (arrival : Arrival) (bytes : List ℕ) (answer : Heard) (before after : List Frame)
    (outdated : Outdated) (new : State) : Type 0 where
  pub appended : after ≡ before ++ sent_since before after
  pub leaves : KeepsWanted (Hears old arrival bytes answer (sent_since before after)) wants outdated new
  pub sound : IsSoundButForDerived new
  pub sendable : All (IsSendable old.settings) (sent_since before after)
  pub settings : new.settings ≡ old.settings
  pub last : new.last ≤ arrival.now
  pub no_earlier : old.last ≤ new.last
  pub due : due new ≡ due old

-- what is kept of an answer: all of it but for fates that nobody wants
abbrev pub kept_answer : Bool → Heard → Heard
kept_answer wanted (heard.Refused refusal) = heard.Refused refusal
kept_answer wanted (heard.Taken fates) = heard.Taken (kept_fates wanted fates)

-- a router has heard a frame, and has kept of its answer what was wanted
pub record HearsAndKeeps (wants : EventWants) (old : State) (arrival : Arrival) (bytes : List ℕ) (kept : Heard) (before after : List Frame) (outdated : Outdated) (new : State) : Type 0 where
  pub answer : Heard
  pub kept_is : kept ≡ kept_answer wants.fates answer
  pub hears : HearsTo wants old arrival bytes answer before after outdated new

-- it is ready for a tick of its clock
pub record IsReadyToTick (outdated : Outdated) (s : State) : Type 0 where
  pub sound : IsSoundButForDerived s
  pub current : IsCurrent outdated s

-- its clock has ticked
pub record TicksTo (wants : EventWants) (old : State) (now : ℕ) (before after : List Frame) (outdated : Outdated) (new : State) : Type 0 where
  pub appended : after ≡ before ++ sent_since before after
  pub leaves : KeepsWanted (TicksAt old now (sent_since before after)) wants outdated new
  pub sound : IsSoundButForDerived new
  pub sendable : All (IsSendable old.settings) (sent_since before after)
  pub settings : new.settings ≡ old.settings
  pub last : new.last ≡ now
  pub due : now < due new

-- what an event that met an allocation failure has put behind so many frames is taken out, and what any other one has put there stays
pub record TakesBack {A E : Type 0} (came : Result A E) (count : ℕ) (before after : List Frame) : Type 0 where
  pub ok : OnOk came (after ≡ before)
  pub err : OnErr came (after ≡ take count before)
