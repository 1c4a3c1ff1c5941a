use Rattle.mesh_expire.proofs.Common.{◌≡◌, drop, find}
use Rattle.mesh_expire.proofs.list_table.ListTableTable.get.Given as goal

abbrev pub invariant-loop-entry : goal.invariant-loop-entry
invariant-loop-entry g l = find g.K.PartialEq.eq l.entry-items l.key ≡ find g.K.PartialEq.eq (drop l.entry-index l.entry-items) l.key
