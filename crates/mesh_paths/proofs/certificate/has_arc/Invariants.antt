use Rattle.mesh_paths.proofs.Common.{AllWithin, Arc4, IsStep}
use Rattle.mesh_paths.proofs.certificate.has_arc.Given as goal

abbrev pub invariant-loop-arc : goal.invariant-loop-arc
invariant-loop-arc l = AllWithin (λ (arc : Arc4). IsStep l.parent l.row arc → ⊥) l.arcs 0 l.arc-index
