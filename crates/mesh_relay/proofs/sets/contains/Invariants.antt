use Rattle.mesh_relay.proofs.Common.{◌≡◌, drop, list_any, addr_eq}
use Rattle.mesh_relay.proofs.sets.contains.Given as goal

abbrev pub invariant-loop-other : goal.invariant-loop-other
invariant-loop-other l = list_any (λ r. addr_eq r l.id) (drop l.other-index l.ids) ≡ list_any (λ r. addr_eq r l.id) l.ids
