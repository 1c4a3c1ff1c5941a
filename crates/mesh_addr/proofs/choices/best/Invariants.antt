use Rattle.mesh_addr.proofs.Common.{IsBestOf, HasHeadBelow}
use Rattle.mesh_addr.proofs.choices.best.Given as goal

abbrev pub invariant-loop-head : goal.invariant-loop-head
invariant-loop-head l = IsBestOf l.width l.count (HasHeadBelow l.width l.limits l.head) l.best
