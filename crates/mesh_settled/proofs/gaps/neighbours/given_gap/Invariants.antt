use Rattle.mesh_settled.proofs.Common.{IsLeastGap, IsOriginatorOf, states, seen}
use Rattle.mesh_settled.proofs.GapsLemmas.Leasts.{Below}
use Rattle.mesh_settled.proofs.gaps.neighbours.given_gap.Given as goal

abbrev pub invariant-loop-y : goal.invariant-loop-y
invariant-loop-y g l = IsLeastGap (seen g.R.RouterView.state l.site) (Below (IsOriginatorOf (states g.R.RouterView.state l.site)) l.y) l.best
