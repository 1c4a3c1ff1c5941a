use Rattle.mesh_emulate.proofs.Common.{None, refl, EventsMake, EndMakes, In_first, end_is_network}
use Rattle.mesh_emulate.proofs.Parts.{whole_run}
use Rattle.mesh_emulate.proofs.Putting.{both_put, both_stop}
use Rattle.mesh_emulate.proofs.emulation.tell_net.Goals as goal

pub tell_end-requires-clause-network : goal.tell_end-requires-clause-network
tell_end-requires-clause-network g c =
    let (pieces, (told, over), stands) = c.in-Ok.ensures.leaves in
    end_is_network c.args.scenario.now c.args.graph.now
    (whole_run c.args.scenario.now c.args.errand.trace (g.N.Network.net c.args.net.now) (g.N.Network.net c.tell_events.new.net) pieces c.requires.opening told over) c.requires.graph

pub returns-in-Ok-clause-leaves : goal.returns-in-Ok-clause-leaves
returns-in-Ok-clause-leaves g c =
    let final = g.N.Network.net c.tell_events.new.net in
    both_put (EventsMake c.args.errand.trace (g.N.Network.net c.args.net.now) final) (EndMakes c.args.scenario.now c.args.errand.send final)
    (g.O.Sink.content c.args.out.now) (g.O.Sink.content c.tell_events.new.out) (g.O.Sink.faults c.args.out.now) (g.O.Sink.faults c.tell_events.new.out)
    (g.O.Sink.content c.tell_end.new.out) (g.O.Sink.faults c.tell_end.new.out) c.tell_end.result c.in-Ok.ensures.leaves c.tell_events.ensures.later c.tell_end.ensures.leaves

pub returns-clause-leaves : goal.returns-clause-leaves
returns-clause-leaves g c =
    let final = g.N.Network.net c.tell_events.new.net in
    both_stop (EventsMake c.args.errand.trace (g.N.Network.net c.args.net.now) final) (EndMakes c.args.scenario.now c.args.errand.send final)
    (g.O.Sink.content c.args.out.now) (g.O.Sink.content c.tell_events.new.out) (g.O.Sink.faults c.args.out.now) (g.O.Sink.faults c.tell_events.new.out)
    c.in-Err.stop (None, In_first refl refl) c.in-Err.ensures.leaves
