use Rattle.mesh_settled.proofs.Common.{IsLeastMissing}
use Rattle.mesh_settled.proofs.GapsLemmas.NeighbourLemmas.{HasBefore}
use Rattle.mesh_settled.proofs.gaps.owned.least_untold.Given as goal

abbrev pub invariant-loop-i : goal.invariant-loop-i
invariant-loop-i l = IsLeastMissing (HasBefore l.settings l.i) l.addrs l.best
