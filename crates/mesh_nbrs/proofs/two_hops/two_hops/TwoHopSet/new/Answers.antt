use Rattle.mesh_nbrs.proofs.Common.{two_hop_eq, distinct_none}
use Rattle.mesh_nbrs.proofs.two_hops.two_hops.TwoHopSet.new.Goals as goal

pub invariant_of-result : goal.invariant_of-result
invariant_of-result g c = rw c.in_ok-new.ensures (distinct_none two_hop_eq, λ q e found. absurd cc)
