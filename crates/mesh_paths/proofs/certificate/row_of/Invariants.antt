use Rattle.mesh_paths.proofs.Common.{◌≢◌, AllWithin, PathRow}
use Rattle.mesh_paths.proofs.certificate.row_of.Given as goal

abbrev pub invariant-loop-row : goal.invariant-loop-row
invariant-loop-row l = AllWithin (λ (row : PathRow). row.node ≢ l.node) l.rows 0 l.row-index
