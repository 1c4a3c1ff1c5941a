use Rattle.mesh_probe.proofs.Reaching.{probes_reach, probes_send_once}
use Rattle.mesh_probe.proofs.laws.probes_reach.Goals as goal

pub returns-clause-reaches : goal.returns-clause-reaches
returns-clause-reaches c = probes_reach c.floods_reach.ensures.reaches

pub returns-clause-once : goal.returns-clause-once
returns-clause-once c = probes_send_once c.floods_reach.ensures.once
