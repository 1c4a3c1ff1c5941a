-- What a call did for the job that its words ask for.
use Rattle.std.specs.Prelude.{◌≡◌, ℕ, ◌≤◌, List, [], length, Option, Some, None, codes}
use Rattle.mesh_io.specs.Pieces.{PutsAll, PutsFront, PutsSome}
use Rattle.mesh_tool.specs.Jobs.Calls.{SourceUse, SinkUse, Call, IsInputTooLong, IsWorkedOn, PutsNothing}
use Rattle.mesh_tool.specs.Jobs.Commands.{Command, command_in}
use Rattle.mesh_tool.specs.declared.jobs.ending.Ending.{Ending}
use Rattle.mesh_tool.specs.declared.words.job.Job.{Job}

-- the octets that the job works on
abbrev pub WorksOn : Job → Call → List ℕ → Type 0
WorksOn job call octets = IsWorkedOn (command_in call job).most call.input octets

-- the input is longer than the job takes, or it was read whole and is refused
pub data Refuses (job : Job) (call : Call) : ℕ → List ℕ → Type 0 where
  Too_long : (most : ℕ) → (command_in call job).most ≡ Some most → IsInputTooLong most call.input → Refuses job call 47 (codes "input")
  By_rule : {number : ℕ} {key : List ℕ} (octets : List ℕ) → WorksOn job call octets → (command_in call job).refuses octets number key →
      Refuses job call number key

-- the command doesn't refuse these octets
abbrev pub IsUnrefused : Command → List ℕ → Type 0
IsUnrefused command octets = (number : ℕ) (key : List ℕ) → command.refuses octets number key → ⊥

-- the command doesn't refuse these octets, and can come to its end
abbrev pub TakesOctets : Command → List ℕ → Type 0
TakesOctets command octets = IsUnrefused command octets × command.attaches octets

-- the source tells what it has left, which is no more than the most, and the command takes it; or nothing is read
abbrev pub TakesUpTo : Option ℕ → Command → SourceUse → Type 0
TakesUpTo (Some most) command input = (octets : List ℕ) × (input.left ≡ Some octets) × (length octets ≤ most) × TakesOctets command octets
TakesUpTo None command input = TakesOctets command []

-- the job takes the input
abbrev pub TakesInput : Job → Call → Type 0
TakesInput job call = TakesUpTo (command_in call job).most (command_in call job) call.input

-- What is written on out

-- all pieces of the output of a command that doesn't refuse these octets were put, and it ends in this way
abbrev pub PutsWhole : Command → List ℕ → SinkUse → Ending → Type 0
PutsWhole command octets out how =
    (answer : command.Answer) × PutsAll (command.makes octets) out.content out.content' answer × command.ends answer how
    × IsUnrefused command octets

-- all pieces of the job's output were put on out, and so it ended
pub record Finishes (call : Call) (job : Job) (how : Ending) : Type 0 where
  pub octets : List ℕ
  pub works_on : WorksOn job call octets
  pub puts : PutsWhole (command_in call job) octets call.out how

-- what was put on out where an allocation failed: nothing, where the input wasn't read whole; else some first pieces
pub data StopsShort (call : Call) (job : Job) : Type 0 where
  Before_reading : PutsNothing call.out → StopsShort call job
  On_the_way : (octets : List ℕ) → WorksOn job call octets →
      PutsSome ((command_in call job).makes octets) call.out.content call.out.content' → StopsShort call job

-- a write on out failed: the pieces before it were put, and a prefix of its piece
pub record LeavesFront (call : Call) (job : Job) : Type 0 where
  pub octets : List ℕ
  pub works_on : WorksOn job call octets
  pub puts : PutsFront ((command_in call job).makes octets) call.out.content call.out.content' call.out.faults call.out.faults'
