use Rattle.mesh_probe.proofs.Common.{AllWithin, RadioArc, BringsTo}
use Rattle.mesh_probe.proofs.reached.can_hear_one.Given as goal

abbrev pub invariant-loop-arc : goal.invariant-loop-arc
invariant-loop-arc l = AllWithin (λ (arc : RadioArc). BringsTo l.sends l.router arc → ⊥) l.scenario.arcs 0 l.arc-index
