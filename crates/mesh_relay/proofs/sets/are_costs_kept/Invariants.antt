use Rattle.mesh_relay.proofs.Common.{◌≡◌, drop, list_all, Willing, is_as_cheap}
use Rattle.mesh_relay.proofs.sets.are_costs_kept.Given as goal

abbrev pub invariant-loop-far : goal.invariant-loop-far
invariant-loop-far l = list_all (λ f. is_as_cheap l.graph l.among Willing f.addr) (drop l.far-index l.graph.far) ≡ list_all (λ f. is_as_cheap l.graph l.among Willing f.addr) l.graph.far
