use Rattle.mesh_relay.proofs.Common.{◌≡◌, drop, list_all, are_distinct}
use Rattle.mesh_relay.proofs.sets.is_distinct_from_all.Given as goal

abbrev pub invariant-loop-other : goal.invariant-loop-other
invariant-loop-other l = list_all (λ n. are_distinct l.first n) (drop l.other-index l.graph.near) ≡ list_all (λ n. are_distinct l.first n) l.graph.near
