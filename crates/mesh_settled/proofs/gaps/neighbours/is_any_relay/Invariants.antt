use Rattle.mesh_settled.proofs.Common.{Says, Routing}
use Rattle.mesh_settled.proofs.GapsLemmas.JointLemmas.{NoBefore}
use Rattle.mesh_settled.proofs.gaps.neighbours.is_any_relay.Given as goal

abbrev pub invariant-loop-k : goal.invariant-loop-k
invariant-loop-k g l = NoBefore (λ a. Says (g.R.RouterView.state l.other) 0 l.now a Routing) l.addrs l.k
