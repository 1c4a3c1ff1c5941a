use Rattle.mesh_relay.proofs.Common.{◌≡◌, ◌&&◌, nat_le, drop, list_any, addr_eq}
use Rattle.mesh_relay.proofs.sets.is_direct_within.Given as goal

abbrev pub invariant-loop-direct : goal.invariant-loop-direct
invariant-loop-direct l = list_any (λ d. addr_eq d.addr l.addr && nat_le d.cost l.most) (drop l.direct-index l.graph.direct) ≡ list_any (λ d. addr_eq d.addr l.addr && nat_le d.cost l.most) l.graph.direct
