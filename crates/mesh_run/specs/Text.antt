-- The text of a run: the report of its router.
use Rattle.std.specs.Prelude.{◌≡◌, ℕ, ◌<◌, ◌≤◌, [], ◌∷◌, ◌++◌, List, All, codes, decimal}
use Rattle.mesh_atoms.specs.declared.settings.RunSetup.{RunSetup}
use Rattle.mesh_atoms.specs.State.{State}
use Rattle.mesh_io.specs.Airs.{Report}
use Rattle.mesh_texts.specs.Lines.Marks.{line_of}
use Rattle.mesh_texts.specs.Sections.Section.{IsSection}
use Rattle.mesh_run.specs.Turns.Turns.{Turns, ended_by}
use Rattle.mesh_run.specs.declared.turns.tally.Ended.{Ended}

-- when a run ended, how many turns were begun, and what was counted of its air
unfoldable pub run_line : ℕ → Ended → List ℕ
run_line end ended = line_of (
    codes "run end " ∷ decimal end ∷ codes " turns " ∷ decimal ended.turns
    ∷ codes " heard " ∷ decimal ended.tally.heard ∷ codes " sent " ∷ decimal ended.tally.sent
    ∷ codes " air faults " ∷ decimal ended.tally.faults ∷ [])

-- the report of a router: the line of its run, and its section
abbrev pub IsReport : ℕ → Ended → State → List ℕ → Type 0
IsReport end ended state text = (section : List ℕ) × IsSection state section × (text ≡ run_line end ended ++ section)

-- the last of the moments alone is at or above the end
pub record ReachesEnd (end : ℕ) (moments : List ℕ) : Type 0 where
  pub before : List ℕ
  pub last : ℕ
  pub moments_are : moments ≡ before ++ last ∷ []
  pub below : All (λ moment. moment < end) before
  pub reached : end ≤ last

-- the text of a run by these moments and reports: the report of the router after its turns, the last of which was at the end
pub record RunText (setup : RunSetup) (moments : List ℕ) (reports : List Report) (text : List ℕ) : Type 0 where
  pub now : ℕ
  pub state : State
  pub turns : Turns setup moments reports now state
  pub ends : ReachesEnd setup.end moments
  pub report : IsReport setup.end (ended_by moments reports) state text
