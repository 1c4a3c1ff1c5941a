use Rattle.mesh_emulate.proofs.Common.{List, Ok, Err, subst, State, IsEndSummary, MakesWanted, IsTripText, MakesOne, PutsPieces}
use Rattle.mesh_emulate.proofs.Putting.{puts_made, both_put, both_stop, wanted_starts}
use Rattle.mesh_emulate.proofs.summary.tell_end.Goals as goal

pub returns-in-Ok-clause-leaves : goal.returns-in-Ok-clause-leaves
returns-in-Ok-clause-leaves g c =
    let s = c.args.scenario.now in
    let net = g.N.Network.net c.args.net.now in
    let a = g.O.Sink.content c.args.out.now in
    let f = g.O.Sink.faults c.args.out.now in
    let b = g.O.Sink.content c.write_put.new.out in
    let k = g.O.Sink.faults c.write_put.new.out in
    both_put (MakesOne (λ (u : Unit {0}). IsEndSummary s net)) (MakesWanted (IsTripText s net.routers) c.args.send) a b f k (g.O.Sink.content c.tell_trip.new.out) (g.O.Sink.faults c.tell_trip.new.out) c.tell_trip.result
    (puts_made (IsEndSummary s net) c.put_end-put.result c.put_end-put.new.text a b f k (Ok tt) c.put_end-put.ensures c.in-Ok.ensures.leaves) c.write_put.ensures.later
    (subst (λ (states : List State). PutsPieces (MakesWanted (IsTripText s states) c.args.send) b (g.O.Sink.content c.tell_trip.new.out) k (g.O.Sink.faults c.tell_trip.new.out) c.tell_trip.result)
    c.routers.ensures c.tell_trip.ensures.leaves)

pub returns-in-Err-clause-leaves : goal.returns-in-Err-clause-leaves
returns-in-Err-clause-leaves g c =
    let s = c.args.scenario.now in
    let net = g.N.Network.net c.args.net.now in
    let a = g.O.Sink.content c.args.out.now in
    let f = g.O.Sink.faults c.args.out.now in
    let b = g.O.Sink.content c.write_put.new.out in
    let k = g.O.Sink.faults c.write_put.new.out in
    both_stop (MakesOne (λ (u : Unit {0}). IsEndSummary s net)) (MakesWanted (IsTripText s net.routers) c.args.send) a b f k c.in-Err.stop (wanted_starts (IsTripText s net.routers) c.args.send)
    (puts_made (IsEndSummary s net) c.put_end-put.result c.put_end-put.new.text a b f k (Err c.in-Err.stop) c.put_end-put.ensures c.in-Err.ensures.leaves)
