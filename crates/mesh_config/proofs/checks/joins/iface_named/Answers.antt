use Rattle.mesh_config.proofs.Common.{position_from-zero, name_eq}
use Rattle.mesh_config.proofs.checks.joins.iface_named.Goals as goal

pub loop-at-init : goal.loop-at-init
loop-at-init c = position_from-zero (λ i. name_eq c.args.name.now i.name) c.args.interfaces.now
