use Rattle.mesh_probe.proofs.Floods.{flood_reaches, flood_sends_once}
use Rattle.mesh_probe.proofs.laws.floods_reach.Goals as goal

pub returns-clause-reaches : goal.returns-clause-reaches
returns-clause-reaches c = flood_reaches

pub returns-clause-once : goal.returns-clause-once
returns-clause-once c = flood_sends_once
