-- What is checked, the event at hand, how far the checking came, and what was told of the event.
use Rattle.std.specs.Prelude.{◌≡◌, ◌<◌, ◌≤◌, ℕ, List, ◌++◌, All, Some, length, slice_get, Bool}
use Rattle.mesh_atoms.specs.Settings.{one_hour}
use Rattle.mesh_atoms.specs.State.{State}
use Rattle.mesh_trace.specs.machine.Net.{NetState}
use Rattle.mesh_trace.specs.machine.Traffic as net
use Rattle.mesh_trace.specs.Positions.Standing.{Item, with_state, with_traffic}
use Rattle.mesh_trace.specs.Reading.Readers.{IsReaderOf}
use Rattle.mesh_replay.specs.declared.checking.case.Case.{Case}
use Rattle.mesh_replay.specs.declared.checking.case.CheckedEvent.{CheckedEvent}
use Rattle.mesh_replay.specs.declared.checking.case.Progress.{Progress}
use Rattle.mesh_trace.specs.machine.Ways.{AreArcsOut}
use Rattle.mesh_replay.specs.Checking.Going.{at, FitsOrStops}

-- the arcs are those of the scenario by the interfaces that they leave
abbrev pub IsCase : Case → Type 0
IsCase case = AreArcsOut case.scenario.now.arcs case.scenario.now.routers (length case.scenario.now.routers) case.ways

-- the trace is read by its reader; words are drawn by the scenario's seed, and frames fly on its arcs
pub record IsProgress (case : Case) (progress : Progress) : Type 0 where
  pub reading : IsReaderOf case.trace.now progress.reader
  pub seed : progress.traffic.seed ≡ case.scenario.now.seed
  pub flying : All (λ (d : net.Delivery). d.arc < length case.scenario.now.arcs) progress.traffic.traffic.air

-- an event is of a router of the scenario that is checked, in the first hour
pub record IsEventOf (case : Case) (event : CheckedEvent) : Type 0 where
  pub case_is : IsCase case
  pub stands : slice_get case.scenario.now.routers event.router ≡ Some event.settings.now
  pub early : event.moment ≤ one_hour

-- its router may be in that state
pub record MayBeIn (event : CheckedEvent) (s : State) : Type 0 where
  pub settings : s.settings ≡ event.settings.now
  pub last : s.last ≡ event.moment

-- router x stands in that state in a network of the scenario with that traffic
pub record StandsIn (case : Case) (progress : Progress) (x : ℕ) (s : State) (net : NetState) : Type 0 where
  pub scenario : net.scenario ≡ case.scenario.now
  pub traffic : net.traffic ≡ progress.traffic.traffic
  pub stands : slice_get net.routers x ≡ Some s

-- lines that were read tell these items of an event of router x as far as they fit, of which others are then left: in each network in which
-- the router stands, whose state is then another, and whatever is to be told behind them
pub record LeadsPast (case : Case) (old new : Progress) (x : ℕ) (s t : State) (items left : List Item) (fits : Bool) : Type 0 where
  pub leads : (net : NetState) (rest : List Item) → StandsIn case old x s net → FitsOrStops case.trace.now old.reader new.reader
      (at net x (items ++ rest)) (at (with_traffic (with_state net x t) new.traffic.traffic) x (left ++ rest)) fits

-- lines that were read tell these items of the event as far as they fit, of which others are then left, in whatever state its router is
-- of which that is so
pub record TellsItems (case : Case) (old new : Progress) (event : CheckedEvent) (IsSo : State → Type 0) (items left : State → List Item) (fits : Bool) :
    Type 0 where
  pub progress : IsProgress case new
  pub told : (s : State) → MayBeIn event s → IsSo s → LeadsPast case old new event.router s s (items s) (left s) fits

-- any state is so
abbrev pub AnyState : State → Type 0
AnyState s = Unit {0}
