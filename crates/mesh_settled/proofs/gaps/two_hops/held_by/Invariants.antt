use Rattle.mesh_settled.proofs.Common.{IsLeastGap, IsTwoHopAt, seen}
use Rattle.mesh_settled.proofs.GapsLemmas.Leasts.{Below}
use Rattle.mesh_settled.proofs.gaps.two_hops.held_by.Given as goal

abbrev pub invariant-loop-place : goal.invariant-loop-place
invariant-loop-place g l = IsLeastGap (seen g.R.RouterView.state l.site) (Below (IsTwoHopAt (g.R.RouterView.state l.site.router.now) l.end.i l.end.link) l.place) l.best
