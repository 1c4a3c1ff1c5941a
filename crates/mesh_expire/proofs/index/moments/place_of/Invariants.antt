use Rattle.mesh_expire.proofs.Common.{◌≡◌, drop, times_in}
use Rattle.mesh_expire.proofs.index.moments.place_of.Given as goal

abbrev pub invariant-loop-i : goal.invariant-loop-i
invariant-loop-i g l = times_in g.K.PartialEq.eq l.keys.items l.key ≡ times_in g.K.PartialEq.eq (drop l.i l.keys.items) l.key
