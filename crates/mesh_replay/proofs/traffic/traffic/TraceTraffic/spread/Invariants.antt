use Rattle.mesh_replay.proofs.Common.{Spreading}
use Rattle.mesh_replay.proofs.traffic.traffic.TraceTraffic.spread.Given as goal

abbrev pub invariant-loop-number : goal.invariant-loop-number
invariant-loop-number l =
    let self = l.self-inside in
    Spreading l.scenario l.now l.frame.value l.ways l.number-index l.lost l.fn.self.traffic (record { air = self.air; counts = self.counts; draws = self.draws.drawn }) self.draws.seed
