use Rattle.mesh_nhdp.proofs.Deciding.{known_metrics}
use Rattle.mesh_nhdp.proofs.repeating.is_metric_same.Goals as goal

pub returns : goal.returns
returns c = known_metrics c.args.metric c.args.other c.eq.result c.eq.ensures
