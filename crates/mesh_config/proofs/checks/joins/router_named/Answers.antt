use Rattle.mesh_config.proofs.Common.{position_from-zero, name_eq}
use Rattle.mesh_config.proofs.checks.joins.router_named.Goals as goal

pub loop-at-init : goal.loop-at-init
loop-at-init c = position_from-zero (λ r. name_eq c.args.name.now r.head.name) c.args.routers.now
