use Rattle.mesh_wire.proofs.Common.{rules, same_metric}
use Rattle.mesh_wire.proofs.parts.metric_in.Goals as goal

pub returns : goal.returns
returns c = same_metric _ _ (search rules)
