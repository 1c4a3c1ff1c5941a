use Rattle.mesh_settled.proofs.Common.{IsLeastGap, IsOrigin, states, seen, IsHeldAt}
use Rattle.mesh_settled.proofs.GapsLemmas.Leasts.{Below}
use Rattle.mesh_settled.proofs.gaps.topics.held_gap.Given as goal

abbrev pub invariant-loop-place : goal.invariant-loop-place
invariant-loop-place g l = record {
  best : IsLeastGap (seen g.R.RouterView.state l.site) (Below (IsHeldAt (g.R.RouterView.state l.site.router.now) l.topic) l.place) l.best;
  last : IsOrigin l.site.scenario.now (states g.R.RouterView.state l.site) l.site.x l.last;
}
