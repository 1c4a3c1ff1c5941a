-- What `replay` answers to an input, and which inputs it refuses.
use Rattle.std.specs.Prelude.{◌≡◌, ◌<◌, ◌≤◌, ℕ, List, ◌++◌, length, codes, decimal, None}
use Rattle.mesh_atoms.specs.declared.settings.Scenario.{Scenario}
use Rattle.mesh_config.specs.declared.keys.parse.TheConstants.{LONGEST_SETTINGS}
use Rattle.mesh_config.specs.Keys.Faults.{first}
use Rattle.mesh_config.specs.Settings.{SettingsIs, FirstRefusal, refusals}
use Rattle.mesh_replay.specs.declared.answer.Replay.{Replay}
use Rattle.mesh_replay.specs.declared.answer.Replay.TheVariants.{Yes, No}
use Rattle.mesh_replay.specs.Checking.Answers.{ReplayAnswers}
use Rattle.mesh_replay.specs.Command.Parts.{IsSplit, HasNoRule}
use Rattle.mesh_trace.specs.Reading.Lines.{lines_of}

-- the answer to a trace, over the network of the scenario that the settings state
pub record IsReplayed (settings trace : List ℕ) (answer : Replay) : Type 0 where
  pub scenario : Scenario
  pub says : SettingsIs settings scenario
  pub clear : first (refusals settings) ≡ None
  pub answers : ReplayAnswers scenario (lines_of trace) answer

-- the answer to an input: to its trace, over its scenario, which is not too long
pub record Replays (input : List ℕ) (answer : Replay) : Type 0 where
  pub settings : List ℕ
  pub trace : List ℕ
  pub split : IsSplit input settings trace
  pub within : length settings ≤ LONGEST_SETTINGS
  pub replayed : IsReplayed settings trace answer

-- an input that is refused, with that number and key: no line is `---`, or the scenario has too many octets, or its settings are refused
pub data IsRefusedInput (input : List ℕ) : ℕ → List ℕ → Type 0 where
  No_trace : HasNoRule input → IsRefusedInput input 41 (codes "trace")
  Long_scenario : (settings trace : List ℕ) → IsSplit input settings trace → LONGEST_SETTINGS < length settings →
      IsRefusedInput input 47 (codes "scenario")
  By_settings : {number : ℕ} {key : List ℕ} (settings trace : List ℕ) → IsSplit input settings trace → length settings ≤ LONGEST_SETTINGS →
      FirstRefusal settings number key → IsRefusedInput input number key

-- the line that tells an answer
unfoldable pub answer_line : Replay → List ℕ
answer_line (Yes lines) = codes "replay yes lines " ++ (decimal lines ++ codes "\n")
answer_line (No line) = codes "replay no line " ++ (decimal line ++ codes "\n")

-- what tells the answer to an input: its line
abbrev pub IsAnswerText : List ℕ → Replay → List ℕ → Type 0
IsAnswerText input answer text = Replays input answer × (text ≡ answer_line answer)
