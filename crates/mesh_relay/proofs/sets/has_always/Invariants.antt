use Rattle.mesh_relay.proofs.Common.{◌≡◌, ◌||◌, not, nat_eq, drop, list_all, is_in_set}
use Rattle.mesh_relay.proofs.sets.has_always.Given as goal

abbrev pub invariant-loop-near : goal.invariant-loop-near
invariant-loop-near l = list_all (λ n. not (nat_eq n.will 15) || is_in_set l.among n) (drop l.near-index l.graph.near) ≡ list_all (λ n. not (nat_eq n.will 15) || is_in_set l.among n) l.graph.near
