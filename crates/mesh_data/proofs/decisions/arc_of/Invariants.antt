use Rattle.mesh_data.proofs.Common.{AllWithin, RadioArc, IsArcOf}
use Rattle.mesh_data.proofs.decisions.arc_of.Given as goal

abbrev pub invariant-loop-arc : goal.invariant-loop-arc
invariant-loop-arc l = AllWithin (λ (arc : RadioArc). IsArcOf l.fn.scenario l.x l.fn.row arc → ⊥) l.arcs 0 l.arc-index
