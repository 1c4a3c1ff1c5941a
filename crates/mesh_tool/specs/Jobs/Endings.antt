-- What was done before anything is put on err, and what is put there then.
use Rattle.std.specs.Prelude.{◌≡◌, ◌⊎◌, ℕ, ◌+◌, List, [], take, codes, Some, IsErr}
use Rattle.mesh_io.specs.Faults.{Rose}
use Rattle.mesh_io.specs.Pieces.{PutsFront, PutsSome}
use Rattle.mesh_tool.specs.declared.jobs.ending.Ending.{Ending}
use Rattle.mesh_tool.specs.declared.jobs.ending.Ending.TheVariants as ending
use Rattle.mesh_tool.specs.declared.jobs.status.Status.{Status}
use Rattle.mesh_tool.specs.declared.jobs.status.Status.TheVariants as status
use Rattle.mesh_tool.specs.Jobs.Calls.{SourceUse, SinkUse, Call, UsesNoAir, Asks, ReadsNothing, IsInputTooLong, PutsText, PutsNothing}
use Rattle.mesh_tool.specs.Jobs.Commands.{Command, UsesAir, command_in}
use Rattle.mesh_tool.specs.Jobs.Lines.{words_line, read_line, refused_line, attach_line, turns_line, memory_line}
use Rattle.mesh_tool.specs.Jobs.Works.{WorksOn, PutsWhole}
use Rattle.mesh_tool.specs.declared.words.job.Job.{Job}
use Rattle.mesh_tool.specs.Words.Words.{words_of}

-- What was done

-- the number of octets that were taken is not one more than the most
abbrev pub IsNotLonger : ℕ → SourceUse → Type 0
IsNotLonger most input = input.taken' ≡ input.taken + (most + 1) → ⊥

-- why an input of at most so many octets wasn't read whole: a fault of the source, an octet too many, or an allocation failure
abbrev pub StopsReading : ℕ → SourceUse → Ending → Type 0
StopsReading most input ending.Read = Rose input.faults input.faults' × IsNotLonger most input
StopsReading most input ending.TooLong = IsInputTooLong most input
StopsReading most input ending.Memory = IsNotLonger most input
StopsReading most input other = ⊥

-- what a command leaves on out, by how it ended, where these are the octets that it works on
unfoldable pub Leaves : Command → List ℕ → SinkUse → Ending → Type 0
Leaves command octets out ending.Done = PutsWhole command octets out ending.Done
Leaves command octets out ending.Packets = PutsWhole command octets out ending.Packets
Leaves command octets out ending.NotARun = PutsWhole command octets out ending.NotARun
Leaves command octets out (ending.Refused number key) = command.refuses octets number key × PutsNothing out
Leaves command octets out ending.Write = PutsFront (command.makes octets) out.content out.content' out.faults out.faults'
Leaves command octets out ending.Memory = PutsSome (command.makes octets) out.content out.content'
Leaves command octets out (ending.Attach interface) = command.is_unattached octets interface × PutsNothing out
Leaves command octets out (ending.Turns turns moment end) = command.is_spent octets turns moment end × PutsNothing out
Leaves command octets out other = ⊥

-- what was read and put for a job: its input wasn't read whole, and nothing was put; or it worked on its octets, and left on out and used
-- of the clock and the air what its command says
pub data DoesJob (job : Job) (call : Call) (how : Ending) : Type 0 where
  Unread : (most : ℕ) → (command_in call job).most ≡ Some most → StopsReading most call.input how → PutsNothing call.out →
      UsesNoAir call.air → DoesJob job call how
  Worked : (octets : List ℕ) → WorksOn job call octets → Leaves (command_in call job) octets call.out how → UsesAir job call.air octets →
      DoesJob job call how

-- what was read and put: nothing, where the words are no command line; else what their job asks for
pub data Does (call : Call) (how : Ending) : Type 0 where
  No_command : how ≡ ending.Words → IsErr (words_of call.words) → ReadsNothing call.input → PutsNothing call.out →
      UsesNoAir call.air → Does call how
  Did : (job : Job) → Asks call job → DoesJob job call how → Does call how

-- What is put on err

-- a line was put on err, and the status that is due is answered; or a front of it, and that of a failed write
abbrev pub TellsLine : SinkUse → List ℕ → Status → Status → Type 0
TellsLine err line due answer =
    ((answer ≡ due) × PutsText err line)
    ⊎ ((answer ≡ status.Write) × Rose err.faults err.faults' × (size : ℕ) × PutsText err (take size line))

-- the line that an ending puts on err, and the status that it answers
abbrev pub TellsEnding : List (List ℕ) → SinkUse → Ending → Status → Type 0
TellsEnding words err ending.Done answer = (answer ≡ status.Done) × PutsText err []
TellsEnding words err ending.Packets answer = (answer ≡ status.Packets) × PutsText err []
TellsEnding words err ending.NotARun answer = (answer ≡ status.NotARun) × PutsText err []
TellsEnding words err ending.Words answer = TellsLine err (words_line words) status.Words answer
TellsEnding words err ending.Read answer = TellsLine err read_line status.Read answer
TellsEnding words err ending.TooLong answer =
    TellsLine err (refused_line 47 (codes "input")) status.Refused answer
TellsEnding words err (ending.Refused number key) answer =
    TellsLine err (refused_line number key) status.Refused answer
TellsEnding words err (ending.Attach interface) answer =
    TellsLine err (attach_line interface) status.Attach answer
TellsEnding words err (ending.Turns turns moment end) answer =
    TellsLine err (turns_line turns moment end) status.Turns answer
TellsEnding words err ending.Write answer = (answer ≡ status.Write) × PutsText err []
TellsEnding words err ending.Memory answer = TellsLine err memory_line status.Memory answer
