use Rattle.mesh_emulate.proofs.Common.{[], appends_none}
use Rattle.mesh_emulate.proofs.Parts.{told_untold}
use Rattle.mesh_emulate.proofs.events.tell_events.Goals as goal

pub returns-in-Err-clause-leaves : goal.returns-in-Err-clause-leaves
returns-in-Err-clause-leaves g c = ([], (g.N.Network.net c.args.net.now, told_untold c.args.trace (g.N.Network.net c.args.net.now)), appends_none (g.O.Sink.content c.args.out.now))
