use Rattle.mesh_expire.proofs.Sweeping.{IsSweptFrom}
use Rattle.mesh_expire.proofs.swept_table.sweep.Given as goal

abbrev pub invariant-loop-place : goal.invariant-loop-place
invariant-loop-place g l = IsSweptFrom g.K.PartialEq.eq l.now l.soonest l.fn.map.entries l.map.entries l.place

abbrev pub decreases-loop-place : goal.decreases-loop-place
decreases-loop-place g l = l.place
