-- The parts of an input of `replay`: the scenario, and the trace.
use Rattle.std.specs.Prelude.{◌≡◌, ◌⊎◌, ℕ, List, [], ◌∷◌, ◌++◌, All, codes}
use Rattle.mesh_trace.specs.Reading.Lines.{lines_of}

-- the line that ends the scenario
abbrev pub IsRule : List ℕ → Type 0
IsRule line = line ≡ codes "---"

-- a line that ends the trace, as the report of `emulate` begins
abbrev pub BeginsReport : List ℕ → Type 0
BeginsReport line = (rest : List ℕ) × (line ≡ codes "emulate " ++ rest)

-- none of these lines is of that kind
abbrev pub HaveNone : (List ℕ → Type 0) → List (List ℕ) → Type 0
HaveNone IsKind lines = All (λ line. IsKind line → ⊥) lines

-- a text is cut in front of its first line of a kind, or at its end where it has none; these are the lines in front
pub record IsCutAt (IsKind : List ℕ → Type 0) (text front rest : List ℕ) : Type 0 where
  pub whole : text ≡ front ++ rest
  pub lines : List (List ℕ)
  pub between : lines_of text ≡ lines ++ lines_of rest
  pub none : HaveNone IsKind lines
  pub next : (rest ≡ []) ⊎ ((line : List ℕ) × (more : List (List ℕ)) × (lines_of rest ≡ line ∷ more) × IsKind line)

-- a text begins with the line `---`, and this is behind it
abbrev pub IsRuled : List ℕ → List ℕ → Type 0
IsRuled text behind = ((text ≡ codes "---") × (behind ≡ [])) ⊎ (text ≡ codes "---\n" ++ behind)

-- an input with a line `---`: the scenario is all in front of the first one, the trace all behind it, up to the first line that begins
-- with `emulate ` or the end
pub record IsSplit (input scenario trace : List ℕ) : Type 0 where
  pub ruled : List ℕ
  pub stated : IsCutAt IsRule input scenario ruled
  pub behind : List ℕ
  pub rule : IsRuled ruled behind
  pub report : List ℕ
  pub told : IsCutAt BeginsReport behind trace report

-- no line of an input is `---`
abbrev pub HasNoRule : List ℕ → Type 0
HasNoRule input = HaveNone IsRule (lines_of input)
