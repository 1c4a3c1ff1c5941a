use Rattle.mesh_relay.proofs.Common.{◌≤◌, List, Bool, ℕ, length, Near, NeighbourGraph, IsPruned}
use Rattle.mesh_relay.proofs.prune.prune.Given as goal

pub record PrunesOn (graph : NeighbourGraph) (willing : List Near) (taken : List Bool) (left : ℕ) : Type 0 where
  pub within : left ≤ length willing
  pub pruned : IsPruned graph willing taken left

abbrev pub invariant-loop-left : goal.invariant-loop-left
invariant-loop-left l = PrunesOn l.graph l.willing l.taken l.left

abbrev pub decreases-loop-left : goal.decreases-loop-left
decreases-loop-left l = l.left
