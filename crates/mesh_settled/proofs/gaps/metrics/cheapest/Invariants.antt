use Rattle.mesh_settled.proofs.Common.{IsLeastMetricOf}
use Rattle.mesh_settled.proofs.gaps.metrics.cheapest.Given as goal

abbrev pub invariant-loop-k : goal.invariant-loop-k
invariant-loop-k l = IsLeastMetricOf l.pairs l.y l.z l.k l.best
