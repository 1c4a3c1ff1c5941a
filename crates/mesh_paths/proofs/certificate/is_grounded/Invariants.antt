use Rattle.mesh_paths.proofs.Common.{AllWithin, IsOffered}
use Rattle.mesh_paths.proofs.certificate.is_grounded.Given as goal

abbrev pub invariant-loop-row : goal.invariant-loop-row
invariant-loop-row l = AllWithin (IsOffered l.arcs l.from l.rows) l.rows 0 l.row-index
