use Rattle.mesh_config.proofs.Common.{◌≡◌, drop, position, position_from, name_eq}
use Rattle.mesh_config.proofs.checks.joins.router_named.Given as goal

abbrev pub invariant-loop-at : goal.invariant-loop-at
invariant-loop-at l = position (λ r. name_eq l.name r.head.name) l.routers ≡ position_from (λ r. name_eq l.name r.head.name) l.at (drop l.at l.routers)
