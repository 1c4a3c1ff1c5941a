-- How the program ends.
use Rattle.std.specs.Prelude.{ℕ}
use Rattle.mesh_tool.specs.declared.jobs.status.Status.{Status}
use Rattle.mesh_tool.specs.declared.jobs.status.Status.TheVariants as status

-- the exit status
abbrev pub code_of : Status → ℕ
code_of status.Done = 0
code_of status.Words = 1
code_of status.Read = 2
code_of status.Write = 3
code_of status.Refused = 4
code_of status.Packets = 5
code_of status.Attach = 6
code_of status.Turns = 7
code_of status.Memory = 8
code_of status.NotARun = 9
