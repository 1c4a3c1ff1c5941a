use Rattle.mesh_relay.proofs.Common.{◌≡◌, not, drop, list_any, Willing, has_same_distance}
use Rattle.mesh_relay.proofs.sets.is_missed.Given as goal

abbrev pub invariant-loop-far : goal.invariant-loop-far
invariant-loop-far l =
    list_any (λ f. not (has_same_distance l.graph l.among Willing f.addr)) (drop l.far-index l.graph.far) ≡ list_any (λ f. not (has_same_distance l.graph l.among Willing f.addr)) l.graph.far
