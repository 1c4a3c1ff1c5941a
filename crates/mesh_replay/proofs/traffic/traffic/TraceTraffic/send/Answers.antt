use Rattle.mesh_replay.proofs.Common.{Traffic}
use Rattle.mesh_replay.proofs.TrafficLemmas.Hearing.{all_flying}
use Rattle.mesh_replay.proofs.traffic.traffic.TraceTraffic.send.Goals as goal

pub returns-clause-flying : goal.returns-clause-flying
returns-clause-flying c =
    let inside = c.self.inside in
    let was : Traffic = record { air = inside.air; counts = inside.counts; draws = inside.draws.drawn } in
    rw (← c.self.view_is) (all_flying c.args.scenario.now c.args.now c.args.router c.args.iface c.args.frame.now.value c.spread.result was c.spread.new.self.traffic (rw c.leaving_of-arcs.ensures at c.spread.ensures.spreads))
