use Rattle.mesh_wire.proofs.Common.{◌≡◌, map, take, hello_line}
use Rattle.mesh_wire.proofs.lines.hello_lines.Given as goal

abbrev pub invariant-loop-row : goal.invariant-loop-row
invariant-loop-row l = l.lines ≡ map hello_line (take l.row-index l.rows)
