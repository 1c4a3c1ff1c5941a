-- What the command of each job is.
use Rattle.std.specs.Prelude.{◌≡◌, ◌⊎◌, ◌<◌, ℕ, List, [], length, Bool, Option, Some, None, option_map, slice_get, unwrap_or}
use Rattle.mesh_atoms.specs.declared.addr.Addr4.{Addr4}
use Rattle.mesh_atoms.specs.declared.settings.RunSetup.{RunSetup}
use Rattle.mesh_config.specs.declared.keys.parse.TheConstants.{LONGEST_SETTINGS}
use Rattle.mesh_config.specs.RunSettings.{FirstRunRefusal}
use Rattle.mesh_dump.specs.Dump.{DumpMakes}
use Rattle.mesh_emulate.specs.declared.making.kind.Kind.{Kind}
use Rattle.mesh_emulate.specs.Emulation.{IsRefused, EmulationMakes}
use Rattle.mesh_emulate.specs.Making.Made.{MadeMakes}
use Rattle.mesh_emulate.specs.Wants.{WantedPacket, Wants}
use Rattle.mesh_io.specs.Faults.{RoseByOne}
use Rattle.mesh_io.specs.Pieces.{MakesOne}
use Rattle.mesh_replay.specs.declared.answer.Replay.{Replay}
use Rattle.mesh_replay.specs.declared.answer.Replay.TheVariants.{Yes, No}
use Rattle.mesh_replay.specs.Command.Replays.{IsRefusedInput, IsAnswerText}
use Rattle.mesh_run.specs.Run.{ToldInCall, StatesSetup, WholeRouterRun, SpendsTurns, FailsToAttach, RunsShort, RouterRunMakes}
use Rattle.mesh_tool.specs.Jobs.Calls.{AirUse, UsesNoAir, Call}
use Rattle.mesh_tool.specs.declared.jobs.ending.Ending.{Ending}
use Rattle.mesh_tool.specs.declared.jobs.ending.Ending.TheVariants as ending
use Rattle.mesh_tool.specs.declared.words.job.Job.{Job}
use Rattle.mesh_tool.specs.declared.words.job.Job.TheVariants as job
use Rattle.mesh_tool.specs.declared.jobs.jobs.TheConstants.{LONGEST_INPUT}

-- what a command does, by the octets that it works on
pub record Command : Type 1 where
  -- the answers that it may give once all its output is made
  pub Answer : Type 0
  -- it reads an input of at most so many octets; none: it reads nothing, and works on no octets
  pub most : Option ℕ
  -- it refuses them, with that number and key
  pub refuses : List ℕ → ℕ → List ℕ → Type 0
  -- the air was such that it can come to its end
  pub attaches : List ℕ → Type 0
  -- these are all pieces of its output, with that answer; or, with no answer, some first ones, and more are to come
  pub makes : List ℕ → List (List ℕ) → Option Answer → Type 0
  -- with that answer it ends in this way
  pub ends : Answer → Ending → Type 0
  -- that interface couldn't be attached
  pub is_unattached : List ℕ → ℕ → Type 0
  -- so many turns were done, with that greatest moment, below that end
  pub is_spent : List ℕ → ℕ → ℕ → ℕ → Type 0

-- the command that makes this output and ends in this way, and does nothing else: it neither reads nor refuses, and uses neither clock
-- nor air. The command of a job says what it does beyond this
abbrev pub only_makes : {A : Type 0} → (List ℕ → List (List ℕ) → Option A → Type 0) → (A → Ending → Type 0) → Command
only_makes {A} Makes Ends = record {
  Answer = A;
  most = None;
  refuses = λ octets number key. ⊥;
  attaches = λ octets. Unit {0};
  makes = Makes;
  ends = Ends;
  is_unattached = λ octets interface. ⊥;
  is_spent = λ octets turns greatest end. ⊥;
}

-- How a command ends that has made all its pieces

-- it is done
abbrev pub EndsDone : Unit {0} → Ending → Type 0
EndsDone answer ending.Done = Unit {0}
EndsDone answer other = ⊥

-- `dump`: none of the lines is refused, or some are
abbrev pub ListingEnds : ℕ → Ending → Type 0
ListingEnds refused ending.Done = refused ≡ 0
ListingEnds refused ending.Packets = 0 < refused
ListingEnds refused other = ⊥

-- `replay`: the trace is whole, or none of a run
abbrev pub ReplayEnds : Replay → Ending → Type 0
ReplayEnds answer ending.Done = (lines : ℕ) × (answer ≡ Yes lines)
ReplayEnds answer ending.NotARun = (line : ℕ) × (answer ≡ No line)
ReplayEnds answer other = ⊥

-- What `emulate` is asked for

-- the word at that place; empty where there is none
abbrev pub word_at : List (List ℕ) → ℕ → List ℕ
word_at words place = unwrap_or (slice_get words place) []

-- the packet, from the router that the word at its place names
abbrev pub packet_in : List (List ℕ) → ℕ × Addr4 → WantedPacket
packet_in words packet = record { from = word_at words packet.0; dest = packet.1 }

abbrev pub wants_in : List (List ℕ) → Bool → Option (ℕ × Addr4) → Option ℕ → Wants
wants_in words trace send probe =
    record { trace = trace; send = option_map (packet_in words) send; probe = option_map (word_at words) probe }

-- How `run` uses clock and air

-- a whole run, or all its turns, below the end; or the attaches before one that failed; or some first turns
abbrev pub RunsSoFar : List ℕ → ℕ → ToldInCall → Type 0
RunsSoFar octets turns told =
    WholeRouterRun octets turns told
    ⊎ (((greatest : ℕ) × (end : ℕ) × SpendsTurns octets turns greatest end told)
    ⊎ (((interface : ℕ) × FailsToAttach octets interface told) ⊎ RunsShort octets turns told))

-- The commands

-- `dump`: the listing of the lines, and the line that counts
abbrev pub dump_command : Bool → Command
dump_command recode = record (only_makes (λ octets. DumpMakes octets recode) ListingEnds) { most = Some LONGEST_INPUT }

-- `run`: the report of a run of the router, each port of which is attached, over an air and a clock of this use
abbrev pub run_command : ℕ → AirUse → Command
run_command turns air = record (only_makes (λ octets. RouterRunMakes octets turns air.told) EndsDone) {
  most = Some LONGEST_SETTINGS;
  refuses = λ octets number key. FirstRunRefusal octets number key;
  attaches = λ octets. (setup : RunSetup) → StatesSetup octets setup → air.told.attached' ≡ length setup.ports;
  is_unattached = λ octets interface. RoseByOne air.faults air.faults' × FailsToAttach octets interface air.told;
  is_spent = λ octets count greatest end. (count ≡ turns) × SpendsTurns octets count greatest end air.told;
}

-- `emulate`: the text of an emulation
abbrev pub emulate_command : Wants → Command
emulate_command wants = record (only_makes (λ octets. EmulationMakes octets wants) EndsDone) {
  most = Some LONGEST_SETTINGS;
  refuses = λ octets number key. IsRefused octets wants number key;
}

-- `emulate --make`: the text of a run of the made scenario
abbrev pub make_command : Kind → ℕ → ℕ → Command
make_command kind routers seed = only_makes (λ octets. MadeMakes kind routers seed) EndsDone

-- `replay`: the line of the answer to the input
abbrev pub replay_command : Command
replay_command = record (only_makes (λ octets. MakesOne (IsAnswerText octets)) ReplayEnds) {
  most = Some LONGEST_INPUT;
  refuses = λ octets number key. IsRefusedInput octets number key;
}

-- the command of a job that these words ask for, over an air and a clock of this use
abbrev pub command_of : List (List ℕ) → AirUse → Job → Command
command_of words air (job.Dump recode) = dump_command recode
command_of words air (job.Run turns) = run_command turns air
command_of words air (job.Emulate trace send probe) = emulate_command (wants_in words trace send probe)
command_of words air (job.Make kind routers seed) = make_command kind routers seed
command_of words air job.Replay = replay_command

-- the use that a job made of the clock and the air, where these are the octets that it works on: none, but for `run`
abbrev pub UsesAir : Job → AirUse → List ℕ → Type 0
UsesAir (job.Run turns) air octets = UsesNoAir air ⊎ RunsSoFar octets turns air.told
UsesAir other air octets = UsesNoAir air

-- the command of a job in a call
abbrev pub command_in : Call → Job → Command
command_in call job = command_of call.words call.air job
