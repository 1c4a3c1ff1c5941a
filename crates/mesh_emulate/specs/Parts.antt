-- The pieces of each part of an emulation.
use Rattle.std.specs.Prelude.{◌≡◌, ◌<◌, ℕ, List, [], ◌++◌, Option, Some, None, Bool, length}
use Rattle.mesh_atoms.specs.declared.network.NetEvent.{NetEvent}
use Rattle.mesh_atoms.specs.declared.settings.Scenario.{Scenario}
use Rattle.mesh_atoms.specs.State.{State}
use Rattle.mesh_data.specs.declared.trip.Trip.{Trip}
use Rattle.mesh_data.specs.Text.{text_of}
use Rattle.mesh_data.specs.Trips.{IsTrip}
use Rattle.mesh_emulate.specs.declared.wanted.Departure.{Departure}
use Rattle.mesh_emulate.specs.declared.wanted.Errand.{Errand}
use Rattle.mesh_emulate.specs.Emulation.{TellsEvents, IsEndSummary, IsProbeOf}
use Rattle.mesh_io.specs.Pieces.{MakesOne}
use Rattle.mesh_probe.specs.declared.coverage.Probe.{Probe}
use Rattle.mesh_probe.specs.Text.{IsProbeText}
use Rattle.mesh_texts.specs.machine.Net.{NetState}
use Rattle.mesh_texts.specs.machine.NetRun.{IsOpeningNet, IsOver, NetRun}
use Rattle.mesh_texts.specs.Trace.{IsFrameTaken}

-- some first pieces of the first part alone; or all its pieces, and then pieces of the next part
pub data MakesBoth (First Next : List (List ℕ) → Option (Unit {0}) → Type 0) (pieces : List (List ℕ)) (answer : Option (Unit {0})) : Type 0 where
  In_first : First pieces None → answer ≡ None → MakesBoth First Next pieces answer
  In_next : (first next : List (List ℕ)) → First first (Some tt) → Next next answer → pieces ≡ first ++ next → MakesBoth First Next pieces answer

-- the text of the trip or the probe that is wanted, as one piece; no piece where none is wanted
abbrev pub MakesWanted : {A : Type 0} → (A → List ℕ → Type 0) → Option A → List (List ℕ) → Option (Unit {0}) → Type 0
MakesWanted IsText (Some wanted) pieces answer = MakesOne (λ (u : Unit {0}). IsText wanted) pieces answer
MakesWanted IsText None pieces (Some u) = pieces ≡ []
MakesWanted IsText None pieces None = ⊥

-- The events

-- an event of the scenario's network, after which the network is this: its router is one of them, and what it heard spells a packet
pub record IsLastEvent (s : Scenario) (net : NetState) (event : NetEvent) : Type 0 where
  pub scenario : net.scenario ≡ s
  pub router : event.router < length net.routers
  pub packet : IsFrameTaken event

-- a run from one network to another, and the texts of its events
pub record RunWithPieces (trace : Bool) (old new : NetState) (pieces : List (List ℕ)) : Type 0 where
  pub events : List NetEvent
  pub runs : NetRun old events new
  pub are_told : TellsEvents trace old events new pieces

-- such a run up to its end; or up to any network where it stopped
abbrev pub EventsMake : Bool → NetState → NetState → List (List ℕ) → Option (Unit {0}) → Type 0
EventsMake trace old new pieces (Some u) = RunWithPieces trace old new pieces × IsOver new
EventsMake trace old new pieces None = (stopped : NetState) × RunWithPieces trace old stopped pieces

-- The end

-- the trip of a packet over the routes of these routers, and its text
abbrev pub IsTripText : Scenario → List State → Departure → List ℕ → Type 0
IsTripText s states departure text =
    (trip : Trip) × IsTrip s states departure.from departure.dest trip × (text ≡ text_of s departure.from departure.dest trip)

-- the summary of a network at the end of its run, and then the trip
abbrev pub EndMakes : Scenario → Option Departure → NetState → List (List ℕ) → Option (Unit {0}) → Type 0
EndMakes s send net pieces answer =
    MakesBoth (MakesOne (λ (u : Unit {0}). IsEndSummary s net)) (MakesWanted (IsTripText s net.routers) send) pieces answer

-- The whole

-- the events of a run between these networks, and then its end
abbrev pub WholeRunMakes : Scenario → Errand → NetState → NetState → List (List ℕ) → Option (Unit {0}) → Type 0
WholeRunMakes s e opening final pieces answer = MakesBoth (EventsMake e.trace opening final) (EndMakes s e.send final) pieces answer

-- the probe by router origin of the network that these routers are, and its text
abbrev pub IsProbedText : Scenario → List State → ℕ → List ℕ → Type 0
IsProbedText s states origin text = (probe : Probe) × IsProbeOf s states origin probe × IsProbeText s origin probe text

-- no piece yet; or a run from the opening of the scenario's network on, and then the probe
pub data ErrandMakes (s : Scenario) (e : Errand) (pieces : List (List ℕ)) (answer : Option (Unit {0})) : Type 0 where
  Unopened : pieces ≡ [] → answer ≡ None → ErrandMakes s e pieces answer
  Opened : (opening final : NetState) → IsOpeningNet s opening →
      MakesBoth (WholeRunMakes s e opening final) (MakesWanted (IsProbedText s final.routers) e.probe) pieces answer → ErrandMakes s e pieces answer
