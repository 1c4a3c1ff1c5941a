-- Inputs of `replay` and their parts, worked by hand.
use Rattle.std.specs.Prelude.{[], ◌∷◌, ◌++◌, codes}
use Rattle.mesh_replay.specs.Command.Parts.{IsSplit, HasNoRule}

-- the lines in front of the first `---` are the scenario, and those behind it the trace; a further `---` is a line of the trace
abbrev pub ManyLines : Type 0
ManyLines = IsSplit (codes "a\n---\nb\n---\nc") (codes "a\n") (codes "b\n---\nc")

-- without a line `---` there is no trace; a carriage return, octet 13, makes it another line, and so does a blank
abbrev pub NoRules : Type 0
NoRules = HasNoRule [] × HasNoRule (codes "a\nb\n") × HasNoRule (codes "a\n---" ++ 13 ∷ codes "\nb\n") × HasNoRule (codes "a\n --- \n")

-- the report ends the trace, also where it stands at once; without the blank behind `emulate` it is a line of the trace
abbrev pub Reports : Type 0
Reports =
    IsSplit (codes "a\n---\nb\nemulate c\nd\n") (codes "a\n") (codes "b\n")
    × IsSplit (codes "a\n---\nemulate c\nd\n") (codes "a\n") []
    × IsSplit (codes "a\n---\nemulate\n") (codes "a\n") (codes "emulate\n")

-- nothing may follow, with a line feed or without
abbrev pub EmptyTraces : Type 0
EmptyTraces = IsSplit (codes "a\n---\n") (codes "a\n") [] × IsSplit (codes "a\n---") (codes "a\n") []

-- nothing may stand in front
abbrev pub EmptyScenarios : Type 0
EmptyScenarios = IsSplit (codes "---\nb\n") [] (codes "b\n") × IsSplit (codes "---") [] []
