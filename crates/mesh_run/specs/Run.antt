-- Runs of the router that an input states, by what a clock and an air tell.
use Rattle.std.specs.Prelude.{◌≡◌, ℕ, ◌<◌, ◌≤◌, ◌++◌, List, [], ◌∷◌, All, length, map, take, Option, Some, None}
use Rattle.mesh_atoms.specs.declared.settings.RunSetup.{RunSetup}
use Rattle.mesh_atoms.specs.State.{State}
use Rattle.mesh_config.specs.RunSettings.{SetupIs, run_refusals}
use Rattle.mesh_io.specs.Airs.{Report}
use Rattle.mesh_io.specs.Told.{TellsMore}
use Rattle.mesh_config.specs.Keys.Faults.{first}
use Rattle.mesh_run.specs.Turns.Turns.{attached_report, greatest_of, Turns, TurnsStopShort}
use Rattle.mesh_run.specs.Text.{RunText}

-- the input states this setup, and has no refusal
pub record StatesSetup (input : List ℕ) (setup : RunSetup) : Type 0 where
  pub says : SetupIs input setup
  pub clear : first (run_refusals input) ≡ None

-- what a clock and an air without interfaces told before a call and after it, and how many interfaces it has then
pub record ToldInCall : Type 0 where
  pub moments : Option (List ℕ)
  pub moments' : Option (List ℕ)
  pub reports : Option (List Report)
  pub reports' : Option (List Report)
  pub attached' : ℕ

-- what was told, put together; a prime marks what stands after the call
abbrev pub told : Option (List ℕ) → Option (List ℕ) → Option (List Report) → Option (List Report) → ℕ → ToldInCall
told moments moments' reports reports' attached' =
    record { moments = moments; moments' = moments'; reports = reports; reports' = reports'; attached' = attached' }

-- nothing was told, and nothing attached
pub record IsUntold (told : ToldInCall) : Type 0 where
  pub moments : told.moments' ≡ told.moments
  pub reports : told.reports' ≡ told.reports
  pub attached : told.attached' ≡ 0

-- the first ports, so many, were attached in order, and nothing else was told
pub record ArePortsAttached (setup : RunSetup) (count : ℕ) (told : ToldInCall) : Type 0 where
  pub moments : told.moments' ≡ told.moments
  pub reports : TellsMore told.reports told.reports' (map attached_report (take count setup.ports))
  pub attached : told.attached' ≡ count

-- all ports were attached in order, and then the clock told these moments and the air these reports
pub record IsTold (setup : RunSetup) (moments : List ℕ) (reports : List Report) (told : ToldInCall) : Type 0 where
  pub clock : TellsMore told.moments told.moments' moments
  pub air : TellsMore told.reports told.reports' (map attached_report setup.ports ++ reports)
  pub attached : told.attached' ≡ length setup.ports

-- How a run ends

-- at its end, after at most so many turns, with its text
pub record WholeRouterRun (input : List ℕ) (most : ℕ) (told : ToldInCall) : Type 0 where
  pub setup : RunSetup
  pub stated : StatesSetup input setup
  pub moments : List ℕ
  pub reports : List Report
  pub is_told : IsTold setup moments reports told
  pub within : length moments ≤ most
  pub text : List ℕ
  pub is_text : RunText setup moments reports text

-- where so many turns were done, the moment of each being below the end
pub record SpendsTurns (input : List ℕ) (turns greatest end : ℕ) (told : ToldInCall) : Type 0 where
  pub setup : RunSetup
  pub stated : StatesSetup input setup
  pub end_is : end ≡ setup.end
  pub moments : List ℕ
  pub reports : List Report
  pub is_told : IsTold setup moments reports told
  pub now : ℕ
  pub state : State
  pub is_turns : Turns setup moments reports now state
  pub count : length moments ≡ turns
  pub below : All (λ moment. moment < end) moments
  pub greatest_is : greatest ≡ greatest_of moments

-- where an interface couldn't be attached: those before it alone were
pub record FailsToAttach (input : List ℕ) (interface : ℕ) (told : ToldInCall) : Type 0 where
  pub setup : RunSetup
  pub stated : StatesSetup input setup
  pub fewer : interface < length setup.ports
  pub is_attached : ArePortsAttached setup interface told

-- where memory was wanting: before anything was done; when the interfaces were attached; or in one of at most so many turns, or after
-- them
pub data RunsShort (input : List ℕ) (most : ℕ) (told : ToldInCall) : Type 0 where
  Before_attaching : IsUntold told → RunsShort input most told
  Before_turns : (setup : RunSetup) → StatesSetup input setup → ArePortsAttached setup (length setup.ports) told → RunsShort input most told
  In_turns : (setup : RunSetup) (moments : List ℕ) (reports : List Report) → StatesSetup input setup → IsTold setup moments reports told →
      length moments ≤ most → TurnsStopShort setup moments reports → RunsShort input most told

-- what a run makes: the text of a whole run, as one piece; nothing before it, if an allocation failed
abbrev pub RouterRunMakes : List ℕ → ℕ → ToldInCall → List (List ℕ) → Option (Unit {0}) → Type 0
RouterRunMakes input most told pieces (Some u) = (r : WholeRouterRun input most told) × (pieces ≡ r.text ∷ [])
RouterRunMakes input most told pieces None = (pieces ≡ []) × RunsShort input most told
