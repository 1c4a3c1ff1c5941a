use Rattle.mesh_data.proofs.Common.{map, IsOnTheWay}
use Rattle.mesh_data.proofs.sending.trip_of.Given as goal

abbrev pub invariant-loop : goal.invariant-loop
invariant-loop g l = IsOnTheWay l.scenario (map g.R.RouterView.state l.routers) l.dest l.from l.last l.hops l.metric l.counter
