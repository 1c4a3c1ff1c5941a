use Rattle.mesh_emulate.proofs.Common.{map, take, metrics_of, IsGreatest}
use Rattle.mesh_emulate.proofs.making.routes.greatest_of.Given as goal

abbrev pub invariant-loop-router : goal.invariant-loop-router
invariant-loop-router g l = IsGreatest (metrics_of (map g.R.RouterView.state (take l.router-index l.routers))) l.greatest
