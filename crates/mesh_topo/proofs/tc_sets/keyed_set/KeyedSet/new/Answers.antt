use Rattle.mesh_topo.proofs.Common.{ap, list_any, is_at, distinct_none}
use Rattle.mesh_topo.proofs.tc_sets.keyed_set.KeyedSet.new.Goals as goal

pub invariant_of-result : goal.invariant_of-result
invariant_of-result g c =
    let eq = g.K.PartialEq.eq in
    rw c.in_ok-new.ensures (distinct_none eq, λ q. ap (list_any (is_at (g.K.Ord.cmp q))) c.new-2.ensures.empty)
