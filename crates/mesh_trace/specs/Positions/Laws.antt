-- That all of a run but its choices is fixed by its trace, and that whole traces are the traces of whole runs.
use Rattle.std.specs.Prelude.{◌≡◌, ◌↔◌, ℕ, ◌<◌, List, [], ◌∷◌, ◌++◌, length, true}
use Rattle.mesh_atoms.specs.declared.settings.Scenario.{Scenario}
use Rattle.mesh_atoms.specs.declared.addr.Addr4.{Addr4}
use Rattle.mesh_atoms.specs.declared.settings.RouterSettings.{RouterSettings}
use Rattle.mesh_atoms.specs.State.{Bases, IsOriginator}
use Rattle.mesh_texts.specs.machine.packet.declared.packet.Span.{Span}
use Rattle.mesh_texts.specs.machine.packet.Fields.{MessageFields}
use Rattle.mesh_texts.specs.machine.declared.arrival.Arrival.{Arrival}
use Rattle.mesh_texts.specs.machine.declared.fate.Fate.{Fate}
use Rattle.mesh_texts.specs.machine.declared.frame.Frame.{Frame}
use Rattle.mesh_texts.specs.machine.Laws.{SoundBases}
use Rattle.mesh_texts.specs.machine.Messages.{TakesMessages}
use Rattle.mesh_texts.specs.Runs.{WholeRun, IsTrace}
use Rattle.mesh_trace.specs.Positions.Alike.{Alike, AlikeBases, IsSoundPosition, IsOfAddresses}
use Rattle.mesh_trace.specs.Reading.Lines.{lines_of}
use Rattle.mesh_trace.specs.Positions.Standing.{TracePosition, IsDone}
use Rattle.mesh_trace.specs.Positions.Leading.{LineLeads, Reaches, Fits, IsWholeTrace, IsUnfit}

-- wherever lines lead, the bases of each router are sound
abbrev pub PositionsAreSound : Type 0
PositionsAreSound = (s : Scenario) (lines : List (List ℕ)) (p : TracePosition) → Reaches s lines p → IsSoundPosition p

-- the messages of a frame leave of bases that are alike bases that are alike, and send the same
abbrev pub MessagesAreFixed : Type 0
MessagesAreFixed =
    (settings : RouterSettings) (own : Addr4) (arrival : Arrival) (bytes : List ℕ) (messages : List MessageFields) (spans : List Span)
    (a b one other : Bases) (sent more : List Frame) (fates others : List Fate) → IsOriginator settings own →
    SoundBases settings arrival.now a → SoundBases settings arrival.now b → AlikeBases a b →
    TakesMessages settings own arrival bytes a messages spans one sent fates →
    TakesMessages settings own arrival bytes b messages spans other more others → AlikeBases one other × (more ≡ sent)

-- wherever lines lead, neighbours have addresses of 32 bits
abbrev pub PositionsHaveAddresses : Type 0
PositionsHaveAddresses = (s : Scenario) (lines : List (List ℕ)) (p : TracePosition) → Reaches s lines p → IsOfAddresses p

-- one line leads from positions that are alike to positions that are alike
abbrev pub LeadsAlike : Type 0
LeadsAlike = (p q after other : TracePosition) (line : List ℕ) → IsSoundPosition p → IsSoundPosition q → IsOfAddresses p → Alike p q →
    LineLeads p line after → LineLeads q line other → Alike after other

-- where a line leads on from one position, it does from each that is alike
abbrev pub LeadsFromAlike : Type 0
LeadsFromAlike = (p q after : TracePosition) (line : List ℕ) → IsSoundPosition p → IsSoundPosition q → Alike p q →
    LineLeads p line after → (other : TracePosition) × LineLeads q line other

-- all else is fixed: wherever the same lines lead is alike
abbrev pub AllElseIsFixed : Type 0
AllElseIsFixed = (s : Scenario) (lines : List (List ℕ)) (p q : TracePosition) → Reaches s lines p → Reaches s lines q → Alike p q

-- so one position to which lines lead decides whether a line fits behind them, and whether they are a whole trace
abbrev pub OneDecidesFit : Type 0
OneDecidesFit = (s : Scenario) (lines : List (List ℕ)) (line : List ℕ) (p : TracePosition) → Reaches s lines p →
    ((q : TracePosition) → LineLeads p line q → ⊥) → Fits s lines line → ⊥

abbrev pub OneDecidesEnd : Type 0
OneDecidesEnd = (s : Scenario) (lines : List (List ℕ)) (p : TracePosition) → Reaches s lines p → (IsDone p → ⊥) → IsWholeTrace s lines → ⊥

-- lines with a first one that doesn't fit are no whole trace
abbrev pub UnfitIsNotWhole : Type 0
UnfitIsNotWhole = (s : Scenario) (lines : List (List ℕ)) (k : ℕ) → IsUnfit s lines k → IsWholeTrace s lines → ⊥

-- and one line at most is the first that doesn't fit
abbrev pub OneUnfit : Type 0
OneUnfit = (s : Scenario) (lines : List (List ℕ)) (k j : ℕ) → IsUnfit s lines k → IsUnfit s lines j → k ≡ j

-- behind a whole trace no line fits
abbrev pub NothingFollows : Type 0
NothingFollows = (s : Scenario) (lines : List (List ℕ)) (line : List ℕ) → IsWholeTrace s lines → Fits s lines line → ⊥

-- so a whole trace with lines more behind it is no whole trace
abbrev pub NoneIsLonger : Type 0
NoneIsLonger = (s : Scenario) (lines : List (List ℕ)) (line : List ℕ) (more : List (List ℕ)) → IsWholeTrace s lines →
    IsWholeTrace s (lines ++ line ∷ more) → ⊥

-- and where there are routers, no lines at all are no whole trace
abbrev pub HasSomeLine : Type 0
HasSomeLine = (s : Scenario) → 0 < length s.routers → IsWholeTrace s [] → ⊥

-- the trace of each run of a scenario's network, from its opening to its end, is whole
abbrev pub RunsAreWhole : Type 0
RunsAreWhole = (s : Scenario) (run : WholeRun s) (text : List ℕ) → IsTrace true run text → IsWholeTrace s (lines_of text)

-- each whole trace is the trace of a run of the scenario's network, from its opening to its end, line by line
abbrev pub WholeTracesAreRuns : Type 0
WholeTracesAreRuns = (s : Scenario) (lines : List (List ℕ)) → IsWholeTrace s lines →
    (run : WholeRun s) × (text : List ℕ) × IsTrace true run text × (lines_of text ≡ lines)

-- so lines are a whole trace exactly where they are the lines of the trace of such a run
abbrev pub WholeExactlyForRuns : Type 0
WholeExactlyForRuns = (s : Scenario) (lines : List (List ℕ)) →
    IsWholeTrace s lines ↔ ((run : WholeRun s) × (text : List ℕ) × IsTrace true run text × (lines_of text ≡ lines))
