use Rattle.mesh_settled.proofs.Common.{◌≡◌, Some, claim_if}
use Rattle.mesh_settled.proofs.GapsLemmas.JointLemmas.{NoneBefore}
use Rattle.mesh_settled.proofs.gaps.topics.claim_in.Given as goal

abbrev pub invariant-loop-k : goal.invariant-loop-k
invariant-loop-k l = NoneBefore (λ row t. claim_if l.topic l.net l.ansn row ≡ Some t) l.rows l.k
