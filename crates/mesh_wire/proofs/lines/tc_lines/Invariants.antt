use Rattle.mesh_wire.proofs.Common.{◌≡◌, map, take, tc_line}
use Rattle.mesh_wire.proofs.lines.tc_lines.Given as goal

abbrev pub invariant-loop-row : goal.invariant-loop-row
invariant-loop-row l = l.lines ≡ map tc_line (take l.row-index l.rows)
