use Rattle.mesh_nbrs.proofs.Common.{◌≡◌, ℕ, ◌<◌, ◌≤◌, Some, slice_get, HasSummaryAt}
use Rattle.mesh_nbrs.proofs.ends.next_in.Given as goal

abbrev pub invariant-loop-place : goal.invariant-loop-place
invariant-loop-place g l = (k : ℕ) (e : _) → l.start ≤ k → k < l.place → slice_get (g.T.Table.content l.table) k ≡ Some e → (HasSummaryAt l.parts.entries e.1.0.addrs → ⊥) → ⊥
