use Rattle.mesh_replay.proofs.Common.{map, IsFirstOf}
use Rattle.mesh_replay.proofs.checking.opening.first_due.Given as goal

abbrev pub invariant-loop-router : goal.invariant-loop-router
invariant-loop-router g l = IsFirstOf (map g.R.RouterOfTrace.state l.routers.items) l.router l.first.router l.first.moment
