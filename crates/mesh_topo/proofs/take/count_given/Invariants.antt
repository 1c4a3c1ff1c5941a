use Rattle.mesh_topo.proofs.Common.{◌≡◌, take, count_by, is_some, given}
use Rattle.mesh_topo.proofs.take.count_given.Given as goal

abbrev pub invariant-loop-row : goal.invariant-loop-row
invariant-loop-row g l = l.count ≡ count_by (λ row. is_some (given g.V.KeyedTuple.kind l.tc.originator l.tc.ansn row)) (take l.row-index l.tc.rows)
