use Rattle.mesh_settled.proofs.Common.{ℕ, ◌<◌, map, IsPeerOriginator}
use Rattle.mesh_settled.proofs.gaps.peers.sender_of.Given as goal

abbrev pub invariant-loop-w : goal.invariant-loop-w
invariant-loop-w g l = (k : ℕ) → k < l.w → IsPeerOriginator l.site.scenario.now (map g.R.RouterView.state l.site.routers.now) l.site.x l.from k → ⊥
