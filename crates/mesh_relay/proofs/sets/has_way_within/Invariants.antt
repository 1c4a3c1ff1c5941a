use Rattle.mesh_relay.proofs.Common.{◌≡◌, ◌+◌, ◌&&◌, nat_le, drop, list_any, addr_eq, is_in_set}
use Rattle.mesh_relay.proofs.sets.has_way_within.Given as goal

abbrev pub invariant-loop-near : goal.invariant-loop-near
invariant-loop-near l = list_any (λ n. addr_eq n.id l.far.via && is_in_set l.among n && nat_le (n.cost + l.far.cost) l.most) (drop l.near-index l.graph.near) ≡ list_any (λ n. addr_eq n.id l.far.via && is_in_set l.among n && nat_le (n.cost + l.far.cost) l.most) l.graph.near
