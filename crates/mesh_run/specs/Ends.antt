-- What a run leaves, by its answer.
use Rattle.std.specs.Prelude.{◌≡◌, ◌⊎◌, ℕ, ◌<◌, ◌≤◌, List, [], ◌∷◌, All, length, Option, Some, None, Result, Ok, Err}
use Rattle.std.specs.Io.KnownBytes.{Keeps}
use Rattle.mesh_atoms.specs.declared.settings.RunSetup.{RunSetup}
use Rattle.mesh_atoms.specs.State.{State}
use Rattle.mesh_config.specs.RunSettings.{FirstRunRefusal}
use Rattle.mesh_io.specs.Airs.{Report}
use Rattle.mesh_io.specs.Faults.{RoseByOne}
use Rattle.mesh_io.specs.Pieces.{PutsPieces}
use Rattle.mesh_io.specs.Told.{TellsMore}
use Rattle.mesh_io.specs.declared.stop.Stop.TheVariants as stop
use Rattle.mesh_run.specs.Run.{ToldInCall, IsUntold, RouterRunMakes, SpendsTurns, FailsToAttach}
use Rattle.mesh_run.specs.Text.{RunText}
use Rattle.mesh_run.specs.declared.fault.RunFault.{RunFault}
use Rattle.mesh_run.specs.declared.fault.RunFault.TheVariants as fault
use Rattle.mesh_run.specs.Turns.Turns.{greatest_of, Turns, StopsTurns}

-- the job is done, or its turns are, or memory was wanting
abbrev pub Completes : Result (Unit {0}) RunFault → Type 0
Completes (Ok u) = Unit {0}
Completes (Err (fault.Refused number key)) = ⊥
Completes (Err (fault.Attach interface)) = ⊥
Completes (Err (fault.Turns turns moment end)) = Unit {0}
Completes (Err (fault.Stopped stop.Write)) = ⊥
Completes (Err (fault.Stopped stop.Memory)) = Unit {0}

-- the turns of the router of a setup, up to its end, with their text
pub record FinishesTurns (setup : RunSetup) (most : ℕ) (clock clock' : Option (List ℕ)) (air air' : Option (List Report))
    (text : List ℕ) : Type 0 where
  pub moments : List ℕ
  pub reports : List Report
  pub clock_tells : TellsMore clock clock' moments
  pub air_tells : TellsMore air air' reports
  pub within : length moments ≤ most
  pub is_text : RunText setup moments reports text

-- so many turns, all below the end
pub record Spends (setup : RunSetup) (turns greatest end : ℕ) (clock clock' : Option (List ℕ)) (air air' : Option (List Report)) :
    Type 0 where
  pub end_is : end ≡ setup.end
  pub moments : List ℕ
  pub reports : List Report
  pub clock_tells : TellsMore clock clock' moments
  pub air_tells : TellsMore air air' reports
  pub now : ℕ
  pub state : State
  pub is_turns : Turns setup moments reports now state
  pub count : length moments ≡ turns
  pub below : All (λ moment. moment < end) moments
  pub greatest_is : greatest ≡ greatest_of moments

-- nothing was told
abbrev pub ToldNothing : Option (List ℕ) → Option (List ℕ) → Option (List Report) → Option (List Report) → Type 0
ToldNothing clock clock' air air' = (clock' ≡ clock) × (air' ≡ air)

-- what is made behind the attaches of all ports: the text of the router's turns; nothing before it, where memory was wanting
abbrev pub RouterMakes : RunSetup → ℕ → Option (List ℕ) → Option (List ℕ) → Option (List Report) → Option (List Report) →
    List (List ℕ) → Option (Unit {0}) → Type 0
RouterMakes setup most clock clock' air air' pieces (Some u) =
    (text : List ℕ) × FinishesTurns setup most clock clock' air air' text × (pieces ≡ text ∷ [])
RouterMakes setup most clock clock' air air' pieces None =
    (pieces ≡ []) × (ToldNothing clock clock' air air' ⊎ StopsTurns setup most clock clock' air air')

-- what is left there
abbrev pub RouterEnds : RunSetup → ℕ → Option (List ℕ) → Option (List ℕ) → Option (List Report) → Option (List Report) →
    Option (List ℕ) → Option (List ℕ) → ℕ → ℕ → Result (Unit {0}) RunFault → Type 0
RouterEnds setup most clock clock' air air' out out' faults faults' (Ok u) =
    PutsPieces (RouterMakes setup most clock clock' air air') out out' faults faults' (Ok u)
RouterEnds setup most clock clock' air air' out out' faults faults' (Err (fault.Refused number key)) = ⊥
RouterEnds setup most clock clock' air air' out out' faults faults' (Err (fault.Attach interface)) = ⊥
RouterEnds setup most clock clock' air air' out out' faults faults' (Err (fault.Turns turns greatest end)) =
    (turns ≡ most) × Spends setup turns greatest end clock clock' air air' × Keeps out out'
RouterEnds setup most clock clock' air air' out out' faults faults' (Err (fault.Stopped why)) =
    PutsPieces (RouterMakes setup most clock clock' air air') out out' faults faults' (Err why)

-- what is left in all
abbrev pub EndsRun : List ℕ → ℕ → ToldInCall → Option (List ℕ) → Option (List ℕ) → ℕ → ℕ → ℕ → ℕ → Result (Unit {0}) RunFault → Type 0
EndsRun input most told out out' faults faults' air_faults air_faults' (Ok u) =
    PutsPieces (RouterRunMakes input most told) out out' faults faults' (Ok u)
EndsRun input most told out out' faults faults' air_faults air_faults' (Err (fault.Refused number key)) =
    FirstRunRefusal input number key × IsUntold told × Keeps out out'
EndsRun input most told out out' faults faults' air_faults air_faults' (Err (fault.Attach interface)) =
    FailsToAttach input interface told × RoseByOne air_faults air_faults' × Keeps out out'
EndsRun input most told out out' faults faults' air_faults air_faults' (Err (fault.Turns turns greatest end)) =
    (turns ≡ most) × SpendsTurns input turns greatest end told × Keeps out out'
EndsRun input most told out out' faults faults' air_faults air_faults' (Err (fault.Stopped why)) =
    PutsPieces (RouterRunMakes input most told) out out' faults faults' (Err why)
