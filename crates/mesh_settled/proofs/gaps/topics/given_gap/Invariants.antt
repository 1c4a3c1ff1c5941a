use Rattle.mesh_settled.proofs.Common.{IsLeastGap, states, seen, IsByRows}
use Rattle.mesh_settled.proofs.GapsLemmas.Leasts.{Below}
use Rattle.mesh_settled.proofs.gaps.topics.given_gap.Given as goal

abbrev pub invariant-loop-w : goal.invariant-loop-w
invariant-loop-w g l = IsLeastGap (seen g.R.RouterView.state l.site) (Below (IsByRows (states g.R.RouterView.state l.site) l.topic) l.w) l.best
