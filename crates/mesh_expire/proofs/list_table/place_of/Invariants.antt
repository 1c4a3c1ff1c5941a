use Rattle.mesh_expire.proofs.Common.{◌≡◌, drop, find}
use Rattle.mesh_expire.proofs.list_table.place_of.Given as goal

abbrev pub invariant-loop-i : goal.invariant-loop-i
invariant-loop-i g l = find g.K.PartialEq.eq l.entry-items l.key ≡ find g.K.PartialEq.eq (drop l.i l.entry-items) l.key
