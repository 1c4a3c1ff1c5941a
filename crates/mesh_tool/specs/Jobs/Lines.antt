-- The lines that tell a fault on err.
use Rattle.std.specs.Prelude.{ℕ, List, ◌++◌, codes, decimal, ◌==◌, if◌then◌else◌}
use Rattle.mesh_tool.specs.Words.Words.{word_at_fault}

-- the name of a refusal
unfoldable pub refusal_name : ℕ → List ℕ
refusal_name number =
    if number == 40 then codes "NotToml"
    else if number == 41 then codes "Missing"
    else if number == 42 then codes "BadValue"
    else if number == 43 then codes "Duplicate"
    else if number == 44 then codes "TooMany"
    else if number == 45 then codes "UnknownName"
    else if number == 46 then codes "UnknownKey"
    else codes "TooLong"

-- the words are no command line: the first word at fault
abbrev pub words_line : List (List ℕ) → List ℕ
words_line words = codes "mesh: words " ++ word_at_fault words ++ codes "\n"

abbrev pub read_line : List ℕ
read_line = codes "mesh: read fault\n"

-- the input is refused, with that number and key
unfoldable pub refused_line : ℕ → List ℕ → List ℕ
refused_line number key = codes "mesh: refused " ++ decimal number ++ codes " " ++ refusal_name number ++ codes " " ++ key ++ codes "\n"

-- an interface, counted from 0, couldn't be attached
unfoldable pub attach_line : ℕ → List ℕ
attach_line interface = codes "mesh: attach " ++ (decimal interface ++ codes "\n")

-- so many turns were done, the greatest moment of the clock, and the end, which none came to
unfoldable pub turns_line : ℕ → ℕ → ℕ → List ℕ
turns_line turns moment end =
    codes "mesh: turns " ++ (decimal turns ++ (codes " moment " ++ (decimal moment ++ (codes " below " ++ (decimal end ++ codes "\n")))))

abbrev pub memory_line : List ℕ
memory_line = codes "mesh: memory\n"
