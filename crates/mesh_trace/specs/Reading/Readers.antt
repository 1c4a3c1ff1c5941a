-- A reader of a trace, that hands out its lines one after the other.
use Rattle.std.specs.Prelude.{◌≡◌, ℕ, ◌+◌, ◌≤◌, List, ◌∷◌, ◌++◌, length, drop, Option, Some, None}
use Rattle.std.specs.Borrow.{Bor}
use Rattle.mesh_trace.specs.Reading.Lines.{lines_of}
use Rattle.mesh_trace.specs.declared.reading.Reader.{Reader}

-- the lines from a place on
abbrev pub lines_from : List ℕ → ℕ → List (List ℕ)
lines_from trace at = lines_of (drop at trace)

-- no more was read than there is, and each line that was read took an octet at least
pub record IsReaderOf (trace : List ℕ) (reader : Reader) : Type 0 where
  pub within : reader.at ≤ length trace
  pub few : reader.taken ≤ reader.at

-- one line was read, the next
pub record TakesLine (trace : List ℕ) (old new : Reader) (line : List ℕ) : Type 0 where
  pub lines : lines_from trace old.at ≡ line ∷ lines_from trace new.at
  pub taken : new.taken ≡ old.taken + 1
  pub text : new.text ≡ old.text

-- the next line begins with what is looked for, and this follows; none where it begins otherwise or isn't there
abbrev pub IsRest : List ℕ → Reader → Option (Bor (List ℕ)) → Type 0
IsRest trace reader None = (line rest : List ℕ) (lines : List (List ℕ)) → lines_from trace reader.at ≡ line ∷ lines → line ≡ reader.text ++ rest → ⊥
IsRest trace reader (Some rest) = (lines : List (List ℕ)) × (lines_from trace reader.at ≡ (reader.text ++ rest.now) ∷ lines)
