use Rattle.mesh_nhdp.proofs.Common.{TwoHopKey, find, two_hop_eq, IsKept, is_symmetric_in}
use Rattle.mesh_nhdp.proofs.Ends.{IsEndedBelow}
use Rattle.mesh_nhdp.proofs.drops.drop_ended.Given as goal

abbrev pub invariant-loop-key : goal.invariant-loop-key
invariant-loop-key g l = (q : TwoHopKey) →
    IsKept (λ t. IsEndedBelow l.keys (is_symmetric_in l.links l.now) l.key-index q.link → ⊥) (find two_hop_eq l.initial.two_hops q) (find two_hop_eq l.two_hops q)
