-- The lines of texts, worked by hand.
use Rattle.std.specs.Prelude.{◌≡◌, [], ◌∷◌, ◌++◌, codes}
use Rattle.mesh_trace.specs.Reading.Lines.{lines_of}

-- nothing has no line; a line feed alone ends an empty one
abbrev pub EmptyLines : Type 0
EmptyLines = (lines_of [] ≡ []) × (lines_of (codes "\n") ≡ [] ∷ []) × (lines_of (codes "\n\n") ≡ [] ∷ [] ∷ [])

-- a line feed at the end begins no line, and a last line needs none
abbrev pub LastLines : Type 0
LastLines =
    (lines_of (codes "tick\nsent\n") ≡ codes "tick" ∷ codes "sent" ∷ [])
    × (lines_of (codes "tick\nsent") ≡ codes "tick" ∷ codes "sent" ∷ [])

-- a carriage return (octet 13) is an octet of its line
abbrev pub ReturnsStay : Type 0
ReturnsStay = lines_of (codes "tick" ++ 13 ∷ codes "\n") ≡ (codes "tick" ++ 13 ∷ []) ∷ []
