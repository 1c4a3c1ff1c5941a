use Rattle.mesh_settled.proofs.Common.{ℕ, ◌<◌, None, seen}
use Rattle.mesh_settled.specs.Gaps.Neighbours.{IsGivenAt}
use Rattle.mesh_settled.proofs.gaps.neighbours.given_neighbour.Given as goal

abbrev pub invariant-loop-y : goal.invariant-loop-y
invariant-loop-y g l = (k : ℕ) → k < l.y → IsGivenAt (seen g.R.RouterView.state l.site) l.addr k None
