use Rattle.mesh_config.proofs.Common.{map, view}
use Rattle.mesh_config.proofs.StatedLemmas.Ordered.{near_holds_ascend}
use Rattle.mesh_config.proofs.stated.rules.near_holds_of.Goals as goal

pub returns-clause-order : goal.returns-clause-order
returns-clause-order c = near_holds_ascend (map view c.in_ok-values.values.now) c.all_rising.result c.all_rising.ensures.answer
