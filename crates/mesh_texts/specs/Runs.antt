-- The texts of whole runs of an emulated network.
use Rattle.std.specs.Prelude.{◌≡◌, ◌↔◌, ℕ, List, [], ◌∷◌, ◌++◌, map, Option, Some, Bool, true, false, slice_get}
use Rattle.mesh_atoms.specs.declared.settings.RouterSettings.{RouterSettings}
use Rattle.mesh_atoms.specs.declared.settings.Scenario.{Scenario}
use Rattle.mesh_atoms.specs.Radio.{Router}
use Rattle.mesh_atoms.specs.Settled.{Settled}
use Rattle.mesh_atoms.specs.State.{State}
use Rattle.mesh_settled.specs.machine.Machine.{Run}
use Rattle.mesh_atoms.specs.declared.network.NetEvent.{NetEvent}
use Rattle.mesh_settled.specs.machine.Net.{NetState, NetStep, event_of, frames_of}
use Rattle.mesh_settled.specs.machine.NetRun.{IsOpeningNet, IsOver, NetRun, events_at}
use Rattle.mesh_atoms.specs.declared.gap.Gap.{Gap}
use Rattle.mesh_texts.specs.Trace.{IsEventText}
use Rattle.mesh_texts.specs.Network.{IsGapOf, IsSummary}
use Rattle.mesh_texts.specs.Printed.{SaysSettled}

-- The trace

-- the text of an event after which the network is this
abbrev pub IsTraced : NetState → NetEvent → List ℕ → Type 0
IsTraced net event text =
    (after : State) × (slice_get net.routers event.router ≡ Some after) × IsEventText net.scenario event after text

-- a run of a network, and its trace: the text of each event, in order
abbrev pub Traces : NetState → List NetEvent → NetState → List ℕ → Type 0
Traces old [] new text = (new ≡ old) × (text ≡ [])
Traces old (event ∷ events) new text =
    (mid : NetState) × NetStep old event mid × (first : List ℕ) × (rest : List ℕ) × IsTraced mid event first
    × Traces mid events new rest × (text ≡ first ++ rest)

-- A whole run

-- a run of the network of a scenario from its opening to its end, the last ticks included
pub record WholeRun (s : Scenario) : Type 0 where
  pub opening : NetState
  pub events : List NetEvent
  pub final : NetState
  pub is_opening : IsOpeningNet s opening
  pub runs : NetRun opening events final
  pub over : IsOver final

-- each router is a run of the machine with its settings: from its opening state it has come through the events of the network that
-- are its own, in their order, and at each it has sent what the event says
abbrev pub RoutersAreRuns : {s : Scenario} → WholeRun s → Type 0
RoutersAreRuns {s} run =
    (x : ℕ) (settings : RouterSettings) → Router s x settings →
    (state : State) × (slice_get run.final.routers x ≡ Some state)
    × Run settings (map event_of (events_at x run.events)) (map frames_of (events_at x run.events)) state

-- a line of the text is `settled yes` exactly where the network is settled at the end of the run
abbrev pub TellsWhetherSettled : {s : Scenario} → WholeRun s → List ℕ → Type 0
TellsWhetherSettled {s} run text = SaysSettled text ↔ Settled s run.final.routers s.end

-- the trace of a run where it is asked for, and nothing where it isn't
abbrev pub IsTrace : Bool → {s : Scenario} → WholeRun s → List ℕ → Type 0
IsTrace false run text = text ≡ []
IsTrace true run text = Traces run.opening run.events run.final text

-- the text of a run: its trace where that is asked for, then the summary of the network at its end
pub record IsRunText (s : Scenario) (trace : Bool) (run : WholeRun s) (text : List ℕ) : Type 0 where
  pub traced : List ℕ
  pub is_trace : IsTrace trace run traced
  pub gap : Option Gap
  pub is_gap : IsGapOf s run.final.routers s.end gap
  pub summary : List ℕ
  pub is_summary : IsSummary s run.final.routers run.final.traffic.counts gap summary
  pub whole : text ≡ traced ++ summary

-- A run that stopped

-- some first events of the network of a scenario, from its opening on, none left out
pub record FirstEvents (s : Scenario) : Type 0 where
  pub opening : NetState
  pub events : List NetEvent
  pub stopped : NetState
  pub is_opening : IsOpeningNet s opening
  pub runs : NetRun opening events stopped
