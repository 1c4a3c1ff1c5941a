use Rattle.mesh_settled.proofs.Common.{ℕ, ◌<◌, IsStrayAt}
use Rattle.mesh_settled.proofs.gaps.peers.is_stray.Given as goal

abbrev pub invariant-loop-v : goal.invariant-loop-v
invariant-loop-v g l = (k : ℕ) → k < l.v → IsStrayAt l.site.scenario.now l.site.x l.addr k → ⊥
