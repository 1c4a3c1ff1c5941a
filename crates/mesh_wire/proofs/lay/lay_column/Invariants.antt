use Rattle.mesh_wire.proofs.Common.{◌≡◌, ◌++◌, take, column_text}
use Rattle.mesh_wire.proofs.lay.lay_column.Given as goal

abbrev pub invariant-loop-line : goal.invariant-loop-line
invariant-loop-line l = l.out ≡ l.fn.out ++ column_text l.column (take l.line-index l.lines)
