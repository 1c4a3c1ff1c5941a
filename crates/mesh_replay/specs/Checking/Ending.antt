-- What is true of an event's router before and behind the lines of the event.
use Rattle.std.specs.Prelude.{◌≡◌, List, [], Bool, IsTrue}
use Rattle.mesh_atoms.specs.State.{State}
use Rattle.mesh_trace.specs.Positions.Alike.{HasAddresses}
use Rattle.mesh_trace.specs.Positions.Standing.{Item}
use Rattle.mesh_replay.specs.declared.checking.case.Case.{Case}
use Rattle.mesh_replay.specs.declared.checking.case.CheckedEvent.{CheckedEvent}
use Rattle.mesh_replay.specs.declared.checking.case.Progress.{Progress}
use Rattle.mesh_replay.specs.Checking.Cases.{IsProgress, LeadsPast}
use Rattle.mesh_replay.specs.Checking.Kept.{AreAtRest, IsAtRest}

-- these items of the event are told as far as they fit, which leaves its router in another state
pub record TellsWholeEvent (case : Case) (old new : Progress) (event : CheckedEvent) (s : State) (items : List Item) (t : State) (fits : Bool) : Type 0 where
  pub progress : IsProgress case new
  pub settings : t.settings ≡ event.settings.now
  pub kept : IsTrue fits → IsAtRest t
  pub leads : LeadsPast case old new event.router s t items [] fits

-- the router of the event is between events; however the event leaves it before its relays are told, its neighbours have addresses
pub record MayBegin (event : CheckedEvent) (s : State) (By : State → List Item → Type 0) : Type 0 where
  pub settings : s.settings ≡ event.settings.now
  pub kept : IsAtRest s
  pub addresses : (is : State) (left : List Item) → By is left → HasAddresses is

-- the event leaves its router in some state, and what it then is to tell is told as far as it fits
pub record EndsEvent (case : Case) (old new : Progress) (event : CheckedEvent) (By : State → List Item → Type 0) (t : State) (fits : Bool) : Type 0 where
  pub is : State
  pub left : List Item
  pub by : By is left
  pub tells : TellsWholeEvent case old new event is left t fits

-- the checking goes on, and where lines fit the routers are between events
pub record KeepsRouters (case : Case) (progress : Progress) (routers : List State) (fits : Bool) : Type 0 where
  pub progress_is : IsProgress case progress
  pub kept : IsTrue fits → AreAtRest case.scenario.now routers
