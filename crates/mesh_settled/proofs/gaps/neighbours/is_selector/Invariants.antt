use Rattle.mesh_settled.proofs.Common.{ℕ, ◌<◌}
use Rattle.mesh_settled.proofs.GapsLemmas.NeighbourLemmas.{SaysOn}
use Rattle.mesh_settled.proofs.gaps.neighbours.is_selector.Given as goal

abbrev pub invariant-loop-i : goal.invariant-loop-i
invariant-loop-i g l = (k : ℕ) → k < l.i → SaysOn (g.R.RouterView.state l.other) l.now l.settings k → ⊥
