use Rattle.mesh_settled.proofs.Common.{IsLeastGap, seen}
use Rattle.mesh_settled.specs.Gaps.Links.{IsHeldAt}
use Rattle.mesh_settled.proofs.GapsLemmas.Leasts.{Below}
use Rattle.mesh_settled.proofs.gaps.links.held_on.Given as goal

abbrev pub invariant-loop-place : goal.invariant-loop-place
invariant-loop-place g l = IsLeastGap (seen g.R.RouterView.state l.site) (Below (IsHeldAt (g.R.RouterView.state l.site.router.now) l.i) l.place) l.best
