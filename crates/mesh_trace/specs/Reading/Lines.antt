-- The lines of a trace.
use Rattle.std.specs.Prelude.{◌≡◌, ℕ, List, [], ◌∷◌, ◌++◌, codes, ◌==◌, if◌then◌else◌}

-- the same lines, with an octet more in front of the first
abbrev pub begun : ℕ → List (List ℕ) → List (List ℕ)
begun octet [] = (octet ∷ []) ∷ []
begun octet (line ∷ lines) = (octet ∷ line) ∷ lines

-- the lines of a text, each without its line feed, which is octet 10. What stands behind the last line feed is a line too, unless that
-- is nothing
abbrev pub lines_of : List ℕ → List (List ℕ)
lines_of [] = []
lines_of (octet ∷ text) = if octet == 10 then [] ∷ lines_of text else begun octet (lines_of text)

-- the line, with a line feed behind it, is this text
abbrev pub IsLineOf : List ℕ → List ℕ → Type 0
IsLineOf line text = line ++ codes "\n" ≡ text
