use Rattle.mesh_settled.proofs.GapsLemmas.JointLemmas.{NoBefore, LeadsBack}
use Rattle.mesh_settled.proofs.gaps.joints.back_of.Given as goal

abbrev pub invariant-loop-back : goal.invariant-loop-back
invariant-loop-back l = NoBefore (LeadsBack l.pairs l.pair) l.pairs l.back-index
