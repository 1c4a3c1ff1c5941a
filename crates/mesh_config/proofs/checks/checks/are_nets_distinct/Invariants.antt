use Rattle.mesh_config.proofs.Common.{◌≡◌, drop, list_all, are_distinct, same_attached}
use Rattle.mesh_config.proofs.checks.checks.are_nets_distinct.Given as goal

abbrev pub invariant-loop-router : goal.invariant-loop-router
invariant-loop-router l = list_all (λ r. are_distinct same_attached r.attached) l.routers ≡ list_all (λ r. are_distinct same_attached r.attached) (drop l.router-index l.routers)
