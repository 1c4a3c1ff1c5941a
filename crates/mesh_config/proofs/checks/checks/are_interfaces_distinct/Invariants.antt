use Rattle.mesh_config.proofs.Common.{◌≡◌, drop, list_all, are_distinct, same_interface}
use Rattle.mesh_config.proofs.checks.checks.are_interfaces_distinct.Given as goal

abbrev pub invariant-loop-router : goal.invariant-loop-router
invariant-loop-router l = list_all (λ r. are_distinct same_interface r.interfaces) l.routers ≡ list_all (λ r. are_distinct same_interface r.interfaces) (drop l.router-index l.routers)
