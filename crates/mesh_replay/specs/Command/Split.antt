-- What splitting an input answers.
use Rattle.std.specs.Prelude.{◌≡◌, ℕ, List, ◌∷◌, codes, Option, Some, None}
use Rattle.mesh_replay.specs.declared.command.parts.Parts.{Parts}
use Rattle.mesh_replay.specs.Command.Parts.{IsSplit, HasNoRule}
use Rattle.mesh_trace.specs.Reading.Lines.{lines_of}

-- the first line of a text is `---`
abbrev pub BeginsWithRule : List ℕ → Type 0
BeginsWithRule text = (more : List (List ℕ)) × (lines_of text ≡ codes "---" ∷ more)

-- these are the parts
abbrev pub IsPartsOf : List ℕ → Parts → Type 0
IsPartsOf input parts = IsSplit input parts.scenario.now parts.trace.now

-- these are the parts, or there are none
abbrev pub IsSplitOrNot : List ℕ → Option Parts → Type 0
IsSplitOrNot input None = HasNoRule input
IsSplitOrNot input (Some parts) = IsPartsOf input parts
