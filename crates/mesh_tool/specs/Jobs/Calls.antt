-- What a call of the program was given, what it read, and what it left.
use Rattle.std.specs.Prelude.{◌≡◌, ℕ, ◌+◌, ◌≤◌, List, [], length, Option, Some, None, Ok}
use Rattle.std.specs.Io.KnownBytes.{Appends, Consumes, IsAtEnd, Keeps}
use Rattle.mesh_io.specs.declared.airs.Air.{Ghosts as AirMembers}
use Rattle.mesh_io.specs.declared.clocks.Clock.{Ghosts as ClockMembers}
use Rattle.mesh_io.specs.declared.sinks.Sink.{Ghosts as SinkMembers}
use Rattle.mesh_io.specs.declared.sources.Source.{Ghosts as SourceMembers}
use Rattle.mesh_run.specs.Run.{ToldInCall, told, IsUntold}
use Rattle.mesh_tool.specs.declared.words.job.Job.{Job}
use Rattle.mesh_tool.specs.Words.Words.{words_of}

-- What streams, an air and a clock showed before a call and after it; a prime marks what stands after it

-- of a source: the octets left, how many were taken, and the count of faults
pub record SourceUse : Type 0 where
  pub left : Option (List ℕ)
  pub left' : Option (List ℕ)
  pub taken : ℕ
  pub taken' : ℕ
  pub faults : ℕ
  pub faults' : ℕ

-- of a sink: the octets on it, and the count of faults
pub record SinkUse : Type 0 where
  pub content : Option (List ℕ)
  pub content' : Option (List ℕ)
  pub faults : ℕ
  pub faults' : ℕ

-- of an air without interfaces, and a clock: the moments and reports that they gave, and the air's count of faults
pub record AirUse : Type 0 where
  pub told : ToldInCall
  pub faults : ℕ
  pub faults' : ℕ

-- the same, by the members of the traits that tell it
abbrev pub source_use : {S : Type 0} → SourceMembers S → S → S → SourceUse
source_use source old new = record {
  left = source.left old;
  left' = source.left new;
  taken = source.taken old;
  taken' = source.taken new;
  faults = source.faults old;
  faults' = source.faults new;
}

abbrev pub sink_use : {O : Type 0} → SinkMembers O → O → O → SinkUse
sink_use sink old new = record { content = sink.content old; content' = sink.content new; faults = sink.faults old; faults' = sink.faults new }

abbrev pub air_use : {A C : Type 0} → AirMembers A → ClockMembers C → A → A → C → C → AirUse
air_use air clock old new old_clock new_clock = record {
  told = told (clock.moments old_clock) (clock.moments new_clock) (air.reports old) (air.reports new) (air.attached new);
  faults = air.faults old;
  faults' = air.faults new;
}

-- the words, and the use of the input, of out and err, and of the air and the clock
pub record Call : Type 0 where
  pub words : List (List ℕ)
  pub input : SourceUse
  pub out : SinkUse
  pub err : SinkUse
  pub air : AirUse

-- the call with these words, where err was used so, by what stood before it and after it
abbrev pub call_of : {S O A C : Type 0} → SourceMembers S → SinkMembers O → AirMembers A → ClockMembers C → List (List ℕ) → S × S → O × O → SinkUse → A × A → C × C → Call
call_of source sink air clock words input out err airs clocks = record {
  words = words;
  input = source_use source input.0 input.1;
  out = sink_use sink out.0 out.1;
  err = err;
  air = air_use air clock airs.0 airs.1 clocks.0 clocks.1;
}

-- the words ask for the job
abbrev pub Asks : Call → Job → Type 0
Asks call job = words_of call.words ≡ Ok job

-- the clock and the air weren't used
abbrev pub UsesNoAir : AirUse → Type 0
UsesNoAir air = IsUntold air.told

-- What is read

-- nothing was read
pub record ReadsNothing (input : SourceUse) : Type 0 where
  pub left : Keeps input.left input.left'
  pub taken : input.taken' ≡ input.taken

-- the octets are the whole input: all that the source had left, and no more than the most
pub record IsInput (most : ℕ) (input : SourceUse) (octets : List ℕ) : Type 0 where
  pub read : Consumes input.left input.left' octets
  pub whole : IsAtEnd input.left'
  pub count : input.taken' ≡ input.taken + length octets
  pub within : length octets ≤ most

-- one octet more than the most was taken
pub record IsInputTooLong (most : ℕ) (input : SourceUse) : Type 0 where
  pub octets : List ℕ
  pub read : Consumes input.left input.left' octets
  pub long : length octets ≡ most + 1
  pub count : input.taken' ≡ input.taken + (most + 1)

-- the octets that are worked on: the whole input, of at most so many octets; none, where nothing is read
abbrev pub IsWorkedOn : Option ℕ → SourceUse → List ℕ → Type 0
IsWorkedOn (Some most) input octets = IsInput most input octets
IsWorkedOn None input octets = (octets ≡ []) × ReadsNothing input

-- What is written

-- the text was put on the sink, or nothing was
abbrev pub PutsText : SinkUse → List ℕ → Type 0
PutsText sink text = Appends sink.content sink.content' text

abbrev pub PutsNothing : SinkUse → Type 0
PutsNothing sink = Keeps sink.content sink.content'
