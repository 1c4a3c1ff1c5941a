use Rattle.mesh_config.proofs.Common.{◌≡◌, drop, are_distinct}
use Rattle.mesh_config.proofs.checks.distinct.are_distinct.Given as goal

abbrev pub invariant-loop-at : goal.invariant-loop-at
invariant-loop-at g l = are_distinct g.T.Compared.same l.items ≡ are_distinct g.T.Compared.same (drop l.at l.items)
