use Rattle.mesh_nbrs.proofs.Common.{addr_eq, distinct_none}
use Rattle.mesh_nbrs.proofs.losts.LostSet.new.Goals as goal

pub invariant_of-result : goal.invariant_of-result
invariant_of-result g c = rw c.in_ok-new.ensures (distinct_none addr_eq)
