use Rattle.mesh_wire.proofs.Common.{◌≡◌, map, take}
use Rattle.mesh_wire.proofs.rows.rows_of.Given as goal

abbrev pub invariant-loop-kept : goal.invariant-loop-kept
invariant-loop-kept g l = l.rows.items ≡ map g.R.Row.row_of (take l.kept-index l.told)
