-- That the text of a run can be read back, also where plain lines follow it.
use Rattle.std.specs.Prelude.{◌≡◌, ◌↔◌, ℕ, ◌<◌, ◌^◌, List, ◌++◌, None, Contains, Bool}
use Rattle.mesh_atoms.specs.declared.addr.Addr4.{Addr4}
use Rattle.mesh_atoms.specs.declared.addr.NetAddr.{NetAddr}
use Rattle.mesh_atoms.specs.declared.graphs.Route.{Route}
use Rattle.mesh_atoms.specs.declared.settings.Scenario.{Scenario}
use Rattle.mesh_atoms.specs.Settled.{At}
use Rattle.mesh_atoms.specs.State.{State}
use Rattle.mesh_settled.specs.paths.SettledRoutes.{HasRow}
use Rattle.mesh_texts.specs.Lines.Marks.{face_name}
use Rattle.mesh_texts.specs.Printed.{SaysSettled, ArePlain, Prints, PrintsBy}
use Rattle.mesh_texts.specs.Runs.{WholeRun, IsRunText}

-- a line of the text is `settled yes` exactly where it has no gap to tell
abbrev pub EndsSettled : Type 0
EndsSettled =
    (s : Scenario) (trace : Bool) (run : WholeRun s) (text behind : List ℕ) → (told : IsRunText s trace run text) → ArePlain behind →
    SaysSettled (text ++ behind) ↔ (told.gap ≡ None)

-- a row of the routes of a router in that state: its destination and metric, and its next address on the interface of that name
abbrev pub HasRowBy : State → NetAddr → ℕ → Addr4 → List ℕ → Type 0
HasRowBy p dest metric next face =
    (row : Route) × Contains p.routes row × (row.dest ≡ dest) × (row.metric ≡ metric) × (row.next ≡ next)
    × (face_name p.settings.interfaces row.iface ≡ face)

-- under a router's name stand exactly the rows of the routes that the router has at the end of the run. Numbers are told in full
-- where they fit the 32 bits of an address and the 64 of a metric
abbrev pub PrintsRows : Type 0
PrintsRows =
    (s : Scenario) (trace : Bool) (run : WholeRun s) (text behind : List ℕ) → IsRunText s trace run text → ArePlain behind →
    (x : ℕ) (p : State) → At run.final.routers x p →
    (dest : NetAddr) (metric : ℕ) → dest.addr.0 < 2 ^ 32 → metric < 2 ^ 64 →
    Prints (text ++ behind) p.settings.name dest metric ↔ HasRow p dest metric

-- the same with their next addresses and interfaces
abbrev pub PrintsRowsBy : Type 0
PrintsRowsBy =
    (s : Scenario) (trace : Bool) (run : WholeRun s) (text behind : List ℕ) → IsRunText s trace run text → ArePlain behind →
    (x : ℕ) (p : State) → At run.final.routers x p →
    (dest : NetAddr) (metric : ℕ) (next : Addr4) (face : List ℕ) →
    dest.addr.0 < 2 ^ 32 → metric < 2 ^ 64 → next.0 < 2 ^ 32 →
    PrintsBy (text ++ behind) p.settings.name dest metric next face ↔ HasRowBy p dest metric next face
