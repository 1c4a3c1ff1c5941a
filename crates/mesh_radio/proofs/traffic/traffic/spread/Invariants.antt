use Rattle.mesh_radio.proofs.Common.{traffic_of, Spreading}
use Rattle.mesh_radio.proofs.traffic.traffic.spread.Given as goal

abbrev pub invariant-loop-number : goal.invariant-loop-number
invariant-loop-number l = Spreading l.scenario l.now l.frame.value l.ways l.number-index l.lost (traffic_of l.fn.traffic) (traffic_of l.traffic) l.traffic.draws.seed
