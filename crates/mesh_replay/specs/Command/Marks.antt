-- The lines that end the parts of an input.
use Rattle.std.specs.Prelude.{◌≡◌, ℕ, List, ◌∷◌, codes, Bool, IsTrue, IsFalse}
use Rattle.mesh_replay.specs.declared.command.marks.Mark.{Mark}
use Rattle.mesh_replay.specs.declared.command.marks.Mark.TheVariants as mark
use Rattle.mesh_replay.specs.Command.Parts.{IsRule, BeginsReport}
use Rattle.mesh_trace.specs.declared.reading.Reader.{Reader}
use Rattle.mesh_trace.specs.Reading.Readers.{lines_from}

-- a line of that kind
abbrev pub IsMarkLine : Mark → List ℕ → Type 0
IsMarkLine mark.Rule line = IsRule line
IsMarkLine mark.Report line = BeginsReport line

-- what such a line begins with
abbrev pub word_of : Mark → List ℕ
word_of mark.Rule = codes "---"
word_of mark.Report = codes "emulate "

-- whether the next line is of that kind
pub record TellsNext (mark : Mark) (text : List ℕ) (reader : Reader) (yes : Bool) : Type 0 where
  pub is : IsTrue yes → (line : List ℕ) × (more : List (List ℕ)) × (lines_from text reader.at ≡ line ∷ more) × IsMarkLine mark line
  pub other : IsFalse yes → (line : List ℕ) (more : List (List ℕ)) → lines_from text reader.at ≡ line ∷ more → IsMarkLine mark line → ⊥
