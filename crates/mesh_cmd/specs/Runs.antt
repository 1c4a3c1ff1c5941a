-- What a run of the program answers and leaves on its sinks.
use Rattle.std.specs.Prelude.{◌≡◌, ◌⊎◌, ℕ, List}
use Rattle.std.specs.Process.{exit_status}
use Rattle.std.specs.declared.process.ExitCode.{ExitCode}
use Rattle.mesh_tool.specs.Answers.Answers.{Answers}
use Rattle.mesh_tool.specs.Jobs.Calls.{Call, SinkUse, PutsNothing}
use Rattle.mesh_tool.specs.Jobs.Endings.{TellsLine}
use Rattle.mesh_tool.specs.Jobs.Lines.{memory_line}
use Rattle.mesh_tool.specs.Jobs.Status.{code_of}
use Rattle.mesh_tool.specs.declared.jobs.status.Status.{Status}
use Rattle.mesh_tool.specs.declared.jobs.status.Status.TheVariants.{Write, Memory}

-- the answer, and what stands on out and err, are those of the program's top call to these words, over some input, clock and air; or an
-- allocation failed before the call, the line that says so stands on err, or a front of it, and nothing was put on out
pub data Runs (words : List (List ℕ)) (out err : SinkUse) (answer : Status) : Type 0 where
  Calls : (call : Call) → call.words ≡ words → call.out ≡ out → call.err ≡ err → Answers call answer → Runs words out err answer
  Lacks_memory : PutsNothing out → TellsLine err memory_line Memory answer → Runs words out err answer

-- the process ends with the number of a run's answer; or with the number of Write, where what out gathered couldn't be handed over
pub record Exits (exit : ExitCode) : Type 0 where
  pub words : List (List ℕ)
  pub out : SinkUse
  pub err : SinkUse
  pub answer : Status
  pub runs : Runs words out err answer
  pub code : (exit_status exit ≡ code_of answer) ⊎ (exit_status exit ≡ code_of Write)
