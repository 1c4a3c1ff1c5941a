use Rattle.mesh_relay.proofs.Common.{◌≡◌, ◌&&◌, not, nat_eq, drop, list_any, addr_eq}
use Rattle.mesh_relay.proofs.sets.is_willing_id.Given as goal

abbrev pub invariant-loop-near : goal.invariant-loop-near
invariant-loop-near l = list_any (λ n. addr_eq n.id l.id && not (nat_eq n.will 0)) (drop l.near-index l.graph.near) ≡ list_any (λ n. addr_eq n.id l.id && not (nat_eq n.will 0)) l.graph.near
