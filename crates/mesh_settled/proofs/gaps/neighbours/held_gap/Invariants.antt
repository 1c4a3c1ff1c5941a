use Rattle.mesh_settled.proofs.Common.{IsLeastGap, seen}
use Rattle.mesh_settled.specs.Gaps.Neighbours.{IsHeldAt}
use Rattle.mesh_settled.proofs.GapsLemmas.Leasts.{Below}
use Rattle.mesh_settled.proofs.gaps.neighbours.held_gap.Given as goal

abbrev pub invariant-loop-place : goal.invariant-loop-place
invariant-loop-place g l = IsLeastGap (seen g.R.RouterView.state l.site) (Below (IsHeldAt (g.R.RouterView.state l.site.router.now)) l.place) l.best
