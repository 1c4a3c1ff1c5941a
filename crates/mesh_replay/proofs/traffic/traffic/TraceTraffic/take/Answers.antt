use Rattle.mesh_replay.proofs.Common.{refl}
use Rattle.mesh_replay.proofs.traffic.traffic.TraceTraffic.take.Goals as goal

pub returns-clause-first : goal.returns-clause-first
returns-clause-first c = rw (← c.self.view_is) (record { others = c.take.new.self; first = c.in_ok-landed.ensures.first; left = refl })
