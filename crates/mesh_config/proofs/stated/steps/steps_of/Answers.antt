use Rattle.mesh_config.proofs.Common.{map, view}
use Rattle.mesh_config.proofs.StatedLemmas.Ordered.{steps_ascend}
use Rattle.mesh_config.proofs.stated.steps.steps_of.Goals as goal

pub returns-clause-order : goal.returns-clause-order
returns-clause-order c = steps_ascend (map view c.in_ok-values.values.now) c.all_rising.result c.all_rising.ensures.answer
