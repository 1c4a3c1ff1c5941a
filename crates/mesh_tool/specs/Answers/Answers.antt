-- What the program answers.
use Rattle.std.specs.Prelude.{◌≡◌, ◌⊎◌, ℕ, ◌+◌, ◌<◌, ◌≤◌, List, [], length, take, Bool, Option, Some, IsErr}
use Rattle.mesh_config.specs.declared.keys.parse.TheConstants.{LONGEST_SETTINGS}
use Rattle.mesh_atoms.specs.declared.addr.Addr4.{Addr4}
use Rattle.mesh_dump.specs.Dump.{DumpMakes}
use Rattle.mesh_emulate.specs.Emulation.{EmulationMakes}
use Rattle.mesh_io.specs.Faults.{Rose, RoseByOne}
use Rattle.mesh_io.specs.Pieces.{MakesOne, PutsAll}
use Rattle.mesh_emulate.specs.Making.Made.{MadeMakes}
use Rattle.mesh_replay.specs.declared.answer.Replay.TheVariants.{Yes, No}
use Rattle.mesh_replay.specs.Command.Replays.{IsAnswerText}
use Rattle.mesh_run.specs.Run.{SpendsTurns, FailsToAttach, RouterRunMakes}
use Rattle.mesh_tool.specs.declared.jobs.ending.Ending.TheVariants as ending
use Rattle.mesh_tool.specs.declared.jobs.status.Status.{Status}
use Rattle.mesh_tool.specs.declared.jobs.status.Status.TheVariants as status
use Rattle.mesh_tool.specs.Jobs.Calls.{Call, UsesNoAir, Asks, ReadsNothing, IsInput, PutsText, PutsNothing}
use Rattle.mesh_tool.specs.Jobs.Commands.{RunsSoFar, wants_in, command_in}
use Rattle.mesh_tool.specs.Jobs.Lines.{words_line, read_line, refused_line, attach_line, turns_line, memory_line}
use Rattle.mesh_tool.specs.Jobs.Works.{Refuses, TakesInput, Finishes, StopsShort, LeavesFront}
use Rattle.mesh_tool.specs.declared.words.job.Job.{Job}
use Rattle.mesh_tool.specs.declared.words.job.Job.TheVariants.{Dump, Run, Emulate, Make, Replay}
use Rattle.mesh_tool.specs.declared.jobs.jobs.TheConstants.{LONGEST_INPUT}
use Rattle.mesh_emulate.specs.declared.making.kind.Kind.{Kind}
use Rattle.mesh_tool.specs.Words.Words.{words_of}

-- a fault that has a line on err: its cause, what stands on out, and its line
pub data FaultLine (call : Call) : Status → List ℕ → Type 0 where
  Wrong_words : IsErr (words_of call.words) → ReadsNothing call.input → PutsNothing call.out → FaultLine call status.Words (words_line call.words)
  Read_fault : (job : Job) → Asks call job → Rose call.input.faults call.input.faults' → PutsNothing call.out →
      FaultLine call status.Read read_line
  Refusal : (number : ℕ) (key : List ℕ) (job : Job) → Asks call job → Refuses job call number key → PutsNothing call.out →
      FaultLine call status.Refused (refused_line number key)
  Attach_fault : (turns interface : ℕ) (octets : List ℕ) → Asks call (Run turns) → IsInput LONGEST_SETTINGS call.input octets →
      FailsToAttach octets interface call.air.told → RoseByOne call.air.faults call.air.faults' → PutsNothing call.out →
      FaultLine call status.Attach (attach_line interface)
  Turns_spent : (turns greatest end : ℕ) (octets : List ℕ) → Asks call (Run turns) → IsInput LONGEST_SETTINGS call.input octets →
      SpendsTurns octets turns greatest end call.air.told → PutsNothing call.out → FaultLine call status.Turns (turns_line turns greatest end)
  Allocation_failure : (job : Job) → Asks call job → StopsShort call job → FaultLine call status.Memory memory_line

-- all pieces of a job's output stand on out, and no line or some line of it tells a refusal, or it says that a trace is none of a run
pub data Whole (call : Call) : Status → Type 0 where
  All_well : (job : Job) → Asks call job → Finishes call job ending.Done → Whole call status.Done
  Some_refused : (job : Job) → Asks call job → Finishes call job ending.Packets → Whole call status.Packets
  Is_no_run : (job : Job) → Asks call job → Finishes call job ending.NotARun → Whole call status.NotARun

-- a write failed: on out, where some first pieces of a job's output and a prefix of the next one then stand, and nothing on err; or on
-- err, where a prefix of the line of the fault that was due then stands
pub data FailsWriting (call : Call) : Type 0 where
  On_out : (job : Job) → Asks call job → LeavesFront call job → PutsText call.err [] → FailsWriting call
  On_err : (due : Status) (line : List ℕ) → FaultLine call due line → Rose call.err.faults call.err.faults' → (size : ℕ) →
      PutsText call.err (take size line) → FailsWriting call

-- a fault's line stands on err
pub record TellsFault (call : Call) (answer : Status) : Type 0 where
  pub line : List ℕ
  pub due : FaultLine call answer line
  pub stands : PutsText call.err line

-- what is answered, and then stands on out and err
pub data OutputStands (call : Call) (answer : Status) : Type 0 where
  Is_whole : Whole call answer → PutsText call.err [] → OutputStands call answer
  Is_told : TellsFault call answer → OutputStands call answer
  Is_failed : answer ≡ status.Write → FailsWriting call → OutputStands call answer

-- of what the program does, a fact each
pub record Answers (call : Call) (answer : Status) : Type 0 where
  -- what stands on out and err, by the status
  pub ends : OutputStands call answer
  -- 0 to `dump`: the listing of the whole input stands on out, and none of its lines is refused
  pub dumped : (recode : Bool) → answer ≡ status.Done → Asks call (Dump recode) →
      (octets : List ℕ) × IsInput LONGEST_INPUT call.input octets × PutsAll (DumpMakes octets recode) call.out.content call.out.content' 0
  -- 0 to `run`: the input states a router, and the report of its run, by the moments and the reports that were given, stands on out
  pub ran : (turns : ℕ) → answer ≡ status.Done → Asks call (Run turns) →
      (octets : List ℕ) × IsInput LONGEST_SETTINGS call.input octets
      × PutsAll (RouterRunMakes octets turns call.air.told) call.out.content call.out.content' tt
  -- whatever is answered to `run`: the clock and the air weren't used, or they gave a run of the router that the input states, or some
  -- first turns of one, with all frames that were handed over
  pub hands : (turns : ℕ) → Asks call (Run turns) →
      UsesNoAir call.air ⊎ ((octets : List ℕ) × IsInput LONGEST_SETTINGS call.input octets × RunsSoFar octets turns call.air.told)
  -- no other command uses the clock or the air
  pub airless : (job : Job) → Asks call job → ((turns : ℕ) → job ≡ Run turns → ⊥) → UsesNoAir call.air
  -- 0 to `emulate`: the input states a scenario, and the text of a run of its network, from its opening to its end, stands on out,
  -- and behind it the trip and the probe that the words ask for
  pub emulated : (trace : Bool) (send : Option (ℕ × Addr4)) (probe : Option ℕ) → answer ≡ status.Done → Asks call (Emulate trace send probe) →
      (octets : List ℕ) × IsInput LONGEST_SETTINGS call.input octets
      × PutsAll (EmulationMakes octets (wants_in call.words trace send probe)) call.out.content call.out.content' tt
  -- 0 to `emulate --make`: the text of a run of the made scenario stands on out, and nothing was read
  pub made : (kind : Kind) (routers seed : ℕ) → answer ≡ status.Done → Asks call (Make kind routers seed) →
      PutsAll (MadeMakes kind routers seed) call.out.content call.out.content' tt × ReadsNothing call.input
  -- 0 to `replay`: the trace of the input is whole, and the line that says so, with the number of its lines, stands on out
  pub replayed : answer ≡ status.Done → Asks call Replay →
      (octets : List ℕ) × IsInput LONGEST_INPUT call.input octets × (lines : ℕ)
      × PutsAll (MakesOne (IsAnswerText octets)) call.out.content call.out.content' (Yes lines)
  -- 9: the words ask for `replay`, the trace of the input is none of a run, and the line that says so, with the number of the first line
  -- that doesn't fit, stands on out, and nothing on err
  pub not_a_run : answer ≡ status.NotARun → Asks call Replay
      × (octets : List ℕ) × IsInput LONGEST_INPUT call.input octets × (line : ℕ)
      × PutsAll (MakesOne (IsAnswerText octets)) call.out.content call.out.content' (No line) × PutsText call.err []
  -- 4 to `replay`: the input is too long, or no line of it is `---`, or its scenario is too long or refused; the line that says so stands
  -- on err, and nothing on out
  pub not_replayed : answer ≡ status.Refused → Asks call Replay →
      (number : ℕ) × (key : List ℕ) × Refuses Replay call number key × PutsNothing call.out
      × PutsText call.err (refused_line number key)
  -- `emulate --make` reads nothing, whatever is answered
  pub unread : (kind : Kind) (routers seed : ℕ) → Asks call (Make kind routers seed) → ReadsNothing call.input
  -- the status of words that are no command line, or their line couldn't be written; nothing is read
  pub no_command : IsErr (words_of call.words) →
      ((answer ≡ status.Words) ⊎ (answer ≡ status.Write)) × ReadsNothing call.input × UsesNoAir call.air
  -- with right words, an input that the source tells and that has more octets than its job takes, and no fault of the source, the
  -- status says so, or a line couldn't be written, or memory was wanting
  pub too_long : (job : Job) (most : ℕ) (octets : List ℕ) → Asks call job → (command_in call job).most ≡ Some most →
      call.input.left ≡ Some octets → most < length octets → (Rose call.input.faults call.input.faults' → ⊥) →
      (answer ≡ status.Refused) ⊎ ((answer ≡ status.Write) ⊎ (answer ≡ status.Memory))
  -- whatever the source tells: where one octet more than the most was taken, the status says so, or its line couldn't be written
  pub one_too_many : (job : Job) (most : ℕ) → Asks call job → (command_in call job).most ≡ Some most →
      call.input.taken' ≡ call.input.taken + (most + 1) → (answer ≡ status.Refused) ⊎ (answer ≡ status.Write)
  -- with right words, an input that the source tells and the job refuses, and no fault of the source, the status is that
  -- of a refusal, or a line couldn't be written, or memory was wanting
  pub refuses : (job : Job) (octets : List ℕ) (number : ℕ) (key : List ℕ) → Asks call job →
      call.input.left ≡ Some octets → (command_in call job).refuses octets number key → (Rose call.input.faults call.input.faults' → ⊥) →
      (answer ≡ status.Refused) ⊎ ((answer ≡ status.Write) ⊎ (answer ≡ status.Memory))
  -- with right words, an input that the job takes, and no fault of source and sinks, the job is done, or its turns are, or it says that
  -- the trace is none of a run, or memory was wanting
  pub complete : (job : Job) → Asks call job → TakesInput job call → (Rose call.input.faults call.input.faults' → ⊥) →
      (Rose call.out.faults call.out.faults' → ⊥) → (Rose call.err.faults call.err.faults' → ⊥) →
      (answer ≡ status.Done) ⊎ ((answer ≡ status.Packets) ⊎ ((answer ≡ status.Turns)
      ⊎ (((answer ≡ status.NotARun) × (job ≡ Replay)) ⊎ (answer ≡ status.Memory))))
  -- the counts of faults never fall
  pub later_input : call.input.faults ≤ call.input.faults'
  pub later_out : call.out.faults ≤ call.out.faults'
  pub later_err : call.err.faults ≤ call.err.faults'
  pub later_air : call.air.faults ≤ call.air.faults'
