use Rattle.mesh_radio.proofs.Common.{map, emission_of, traffic_of}
use Rattle.mesh_radio.proofs.TrafficLemmas.Sending.{Sending}
use Rattle.mesh_radio.proofs.traffic.traffic.send_all.Given as goal

abbrev pub invariant-loop-i : goal.invariant-loop-i
invariant-loop-i l = Sending l.scenario l.now l.router l.outbox l.i (map emission_of l.sent.items) (traffic_of l.fn.traffic) (traffic_of l.traffic) l.traffic.draws.seed
