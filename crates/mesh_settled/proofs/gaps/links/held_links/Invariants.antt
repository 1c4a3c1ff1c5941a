use Rattle.mesh_settled.proofs.Common.{IsLeastGap, IsHeldOn, seen}
use Rattle.mesh_settled.proofs.GapsLemmas.Leasts.{Below}
use Rattle.mesh_settled.proofs.gaps.links.held_links.Given as goal

abbrev pub invariant-loop-i : goal.invariant-loop-i
invariant-loop-i g l = IsLeastGap (seen g.R.RouterView.state l.site) (Below (IsHeldOn (g.R.RouterView.state l.site.router.now)) l.i) l.best
