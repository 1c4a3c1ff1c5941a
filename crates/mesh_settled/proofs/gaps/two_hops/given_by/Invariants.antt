use Rattle.mesh_settled.proofs.Common.{IsLeastGap, IsKeyNear, seen}
use Rattle.mesh_settled.proofs.GapsLemmas.Leasts.{Below}
use Rattle.mesh_settled.proofs.gaps.two_hops.given_by.Given as goal

abbrev pub invariant-loop-place : goal.invariant-loop-place
invariant-loop-place g l = IsLeastGap (seen g.R.RouterView.state l.site) (Below (IsKeyNear l.end.i l.end.link (g.R.RouterView.state l.end.other.now)) l.place) l.best
