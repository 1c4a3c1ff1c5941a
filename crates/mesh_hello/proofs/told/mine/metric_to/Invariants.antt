use Rattle.mesh_hello.proofs.Common.{◌≡◌, Some, IsLeastMetric, IsMyRow}
use Rattle.mesh_hello.proofs.Collect.{SomeBelow}
use Rattle.mesh_hello.proofs.told.mine.metric_to.Given as goal

abbrev pub invariant-loop-row : goal.invariant-loop-row
invariant-loop-row l = IsLeastMetric (λ m. SomeBelow l.hello.rows l.row-index (λ row. IsMyRow l.own row × (row.metrics.link_in ≡ Some m))) l.least
