use Rattle.mesh_settled.proofs.Common.{map, IsLeastGap, IsKeyOfAt, seen}
use Rattle.mesh_settled.proofs.GapsLemmas.Leasts.{Below}
use Rattle.mesh_settled.proofs.gaps.two_hops.gap_in.Given as goal

abbrev pub invariant-loop-place : goal.invariant-loop-place
invariant-loop-place g l = IsLeastGap (seen g.R.RouterView.state l.site) (Below (IsKeyOfAt (map g.R.RouterView.state l.site.routers.now) l.site.x l.pairs) l.place) l.best
