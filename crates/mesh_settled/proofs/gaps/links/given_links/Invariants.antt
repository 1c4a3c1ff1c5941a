use Rattle.mesh_settled.proofs.Common.{map, IsLeastGap, seen}
use Rattle.mesh_settled.proofs.GapsLemmas.Leasts.{Below}
use Rattle.mesh_settled.proofs.GapsLemmas.LinkLemmas.{IsGivenByPlace}
use Rattle.mesh_settled.proofs.gaps.links.given_links.Given as goal

abbrev pub invariant-loop-place : goal.invariant-loop-place
invariant-loop-place g l = IsLeastGap (seen g.R.RouterView.state l.site) (Below (IsGivenByPlace (map g.R.RouterView.state l.site.routers.now) l.site.x l.pairs) l.place) l.best
