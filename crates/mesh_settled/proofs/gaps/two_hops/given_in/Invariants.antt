use Rattle.mesh_settled.proofs.Common.{IsLeastGap, IsKeyIn, seen}
use Rattle.mesh_settled.proofs.GapsLemmas.Leasts.{Below}
use Rattle.mesh_settled.proofs.gaps.two_hops.given_in.Given as goal

abbrev pub invariant-loop-n : goal.invariant-loop-n
invariant-loop-n g l = IsLeastGap (seen g.R.RouterView.state l.site) (Below (IsKeyIn l.end.i l.end.link l.addrs) l.n) l.best
