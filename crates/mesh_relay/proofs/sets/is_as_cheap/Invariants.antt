use Rattle.mesh_relay.proofs.Common.{◌≡◌, ◌||◌, not, drop, list_all, addr_eq, is_matched}
use Rattle.mesh_relay.proofs.sets.is_as_cheap.Given as goal

abbrev pub invariant-loop-far : goal.invariant-loop-far
invariant-loop-far l = list_all (λ f. not (addr_eq f.addr l.addr) || is_matched l.graph l.among l.other f) (drop l.far-index l.graph.far) ≡ list_all (λ f. not (addr_eq f.addr l.addr) || is_matched l.graph l.among l.other f) l.graph.far
