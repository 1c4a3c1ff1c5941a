use Rattle.mesh_relay.proofs.Common.{◌≡◌, ◌+◌, ◌||◌, not, drop, list_all, addr_eq, is_in_set, is_offered_within}
use Rattle.mesh_relay.proofs.sets.is_matched.Given as goal

abbrev pub invariant-loop-near : goal.invariant-loop-near
invariant-loop-near l = list_all (λ n. not (addr_eq n.id l.far.via) || not (is_in_set l.other n) || is_offered_within l.graph l.among l.far.addr (n.cost + l.far.cost)) (drop l.near-index l.graph.near) ≡ list_all (λ n. not (addr_eq n.id l.far.via) || not (is_in_set l.other n) || is_offered_within l.graph l.among l.far.addr (n.cost + l.far.cost)) l.graph.near
