-- What may come next in a trace, and which traces are whole.
use Rattle.std.specs.Prelude.{◌≡◌, ℕ, ◌+◌, List, [], ◌∷◌, ◌++◌, length, Some, slice_get}
use Rattle.mesh_atoms.specs.declared.settings.Scenario.{Scenario}
use Rattle.mesh_atoms.specs.State.{State}
use Rattle.mesh_texts.specs.machine.Net.{NetState}
use Rattle.mesh_trace.specs.Positions.Items.{TellsItem}
use Rattle.mesh_trace.specs.Positions.Events.{OpensEvent}
use Rattle.mesh_trace.specs.Positions.Standing.{Item, TracePosition, IsFirstPosition, IsDone}

-- one line leads from a position to a position: where nothing is left to be told of an event, it is that of the next event; else it
-- tells what is next of the event
pub data LineLeads (old : TracePosition) (line : List ℕ) (new : TracePosition) : Type 0 where
  To_event : old.left ≡ [] → OpensEvent old.net line new → LineLeads old line new
  To_item : {s : State} {item : Item} {rest more : List Item} {net : NetState} → old.left ≡ item ∷ rest →
      slice_get old.net.routers old.router ≡ Some s → TellsItem old.net old.router s line item net more →
      new ≡ record { net = net; router = old.router; left = more ++ rest } → LineLeads old line new

-- these lines in order
abbrev pub LeadsBy : TracePosition → List (List ℕ) → TracePosition → Type 0
LeadsBy old [] new = new ≡ old
LeadsBy old (line ∷ lines) new = (mid : TracePosition) × LineLeads old line mid × LeadsBy mid lines new

-- the lines lead here from before the first event of the scenario, so that each of them fits those before it
abbrev pub Reaches : Scenario → List (List ℕ) → TracePosition → Type 0
Reaches s lines p = (first : TracePosition) × IsFirstPosition s first × LeadsBy first lines p

-- after these lines the next line of a trace may be this
abbrev pub Fits : Scenario → List (List ℕ) → List ℕ → Type 0
Fits s lines line = (p q : TracePosition) × Reaches s lines p × LineLeads p line q

-- each of the lines fits those before it, every event up to the end was done, the last ticks included, and all that they tell was told
abbrev pub IsWholeTrace : Scenario → List (List ℕ) → Type 0
IsWholeTrace s lines = (p : TracePosition) × Reaches s lines p × IsDone p

-- the number of the first line that doesn't fit those before it, counted from 1, or of the line after the last where each fits and
-- the trace isn't whole
pub data IsUnfit (s : Scenario) (lines : List (List ℕ)) : ℕ → Type 0 where
  At_line : (p : TracePosition) (front : List (List ℕ)) (line : List ℕ) (rest : List (List ℕ)) → lines ≡ front ++ line ∷ rest →
      Reaches s front p → (Fits s front line → ⊥) → IsUnfit s lines (length front + 1)
  Behind_all : (p : TracePosition) → Reaches s lines p → (IsWholeTrace s lines → ⊥) → IsUnfit s lines (length lines + 1)
