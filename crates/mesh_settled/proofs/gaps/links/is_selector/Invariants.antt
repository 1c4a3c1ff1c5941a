use Rattle.mesh_settled.proofs.Common.{Says, Flooding}
use Rattle.mesh_settled.proofs.GapsLemmas.JointLemmas.{NoBefore}
use Rattle.mesh_settled.proofs.gaps.links.is_selector.Given as goal

abbrev pub invariant-loop-k : goal.invariant-loop-k
invariant-loop-k g l = NoBefore (λ a. Says (g.R.RouterView.state l.other) l.j l.now a Flooding) l.addrs l.k
