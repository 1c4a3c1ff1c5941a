use Rattle.mesh_settled.proofs.Common.{map}
use Rattle.mesh_settled.proofs.KindLemmas.{NoneBefore}
use Rattle.mesh_settled.proofs.report.first_of.Given as goal

abbrev pub invariant-loop-x : goal.invariant-loop-x
invariant-loop-x g l = NoneBefore l.scenario (map g.R.RouterView.state l.routers) l.now l.x
