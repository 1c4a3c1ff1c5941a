use Rattle.mesh_replay.proofs.Common.{map, AreAtOpeningUpTo}
use Rattle.mesh_replay.proofs.checking.opening.routers_of.Given as goal

abbrev pub invariant-loop-one : goal.invariant-loop-one
invariant-loop-one g l = AreAtOpeningUpTo l.settings l.one-index (map g.R.RouterOfTrace.state l.routers.items)
