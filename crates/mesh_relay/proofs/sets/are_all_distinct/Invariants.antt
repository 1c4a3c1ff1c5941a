use Rattle.mesh_relay.proofs.Common.{◌≡◌, drop, list_all, is_distinct_from_all}
use Rattle.mesh_relay.proofs.sets.are_all_distinct.Given as goal

abbrev pub invariant-loop-first : goal.invariant-loop-first
invariant-loop-first l = list_all (λ m. is_distinct_from_all l.graph m) (drop l.first-index l.graph.near) ≡ list_all (λ m. is_distinct_from_all l.graph m) l.graph.near
