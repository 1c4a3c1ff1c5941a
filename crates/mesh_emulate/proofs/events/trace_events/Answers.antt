use Rattle.mesh_emulate.proofs.Common.{Ok, Err, arith, IsTraced}
use Rattle.mesh_emulate.proofs.Putting.{puts_made}
use Rattle.mesh_emulate.proofs.TraceFacts.{last_event, event_left, event_told}
use Rattle.mesh_emulate.proofs.events.trace_events.Goals as goal

pub events-preserved : goal.events-preserved
events-preserved g c =
    let step = rw c.in-Ok-Some.field-0-is at c.in-Ok-Some.ensures.step in
    let packets = rw c.in-Ok-Some.field-0-is at c.in-Ok-Some.ensures.packets in
    let later = c.write_put.ensures.later in
    let net = g.N.Network.net c.step.new.self in
    record {
      scenario = (last_event c.args.scenario.now (g.N.Network.net c.events.net) net c.in-Ok-Some.event c.events.invariant.scenario step packets).scenario;
      later = omega (arith, c.events.invariant.later, later);
      told = event_told (g.N.Network.net c.args.net.now) (g.N.Network.net c.events.net) net c.in-Ok-Some.event (g.O.Sink.content c.args.out.now) (g.O.Sink.content c.events.out) (g.O.Sink.content c.write_put.new.out)
          step c.events.invariant.told
          (puts_made (IsTraced net c.in-Ok-Some.event) c.put_text-put.result c.put_text-put.new.text (g.O.Sink.content c.events.out) (g.O.Sink.content c.write_put.new.out) (g.O.Sink.faults c.events.out) (g.O.Sink.faults c.write_put.new.out) (Ok tt)
          c.put_text-put.ensures c.in-Ok.ensures.leaves);
    }

pub returns-in-Err-write_put-clause-leaves : goal.returns-in-Err-write_put-clause-leaves
returns-in-Err-write_put-clause-leaves g c =
    let step = rw c.in-Ok-Some.field-0-is at c.in-Ok-Some.ensures.step in
    let net = g.N.Network.net c.step.new.self in
    event_left (g.N.Network.net c.args.net.now) (g.N.Network.net c.events.net) net net c.in-Ok-Some.event (g.O.Sink.content c.args.out.now) (g.O.Sink.content c.events.out) (g.O.Sink.content c.write_put.new.out)
    (g.O.Sink.faults c.args.out.now) (g.O.Sink.faults c.events.out) (g.O.Sink.faults c.write_put.new.out) c.in-Err-write_put.stop step c.events.invariant.told c.events.invariant.later
    (puts_made (IsTraced net c.in-Ok-Some.event) c.put_text-put.result c.put_text-put.new.text (g.O.Sink.content c.events.out) (g.O.Sink.content c.write_put.new.out) (g.O.Sink.faults c.events.out) (g.O.Sink.faults c.write_put.new.out)
    (Err c.in-Err-write_put.stop) c.put_text-put.ensures c.in-Err-write_put.ensures.leaves)
