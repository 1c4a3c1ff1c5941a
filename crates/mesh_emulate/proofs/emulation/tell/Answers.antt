use Rattle.mesh_emulate.proofs.Common.{[], refl, Unopened, appends_none}
use Rattle.mesh_emulate.proofs.emulation.tell.Goals as goal

pub tell_all-requires-clause-opening : goal.tell_all-requires-clause-opening
tell_all-requires-clause-opening g c = c.in-Ok-new.ensures.opening

pub tell_all-requires-clause-graph : goal.tell_all-requires-clause-graph
tell_all-requires-clause-graph g c = c.in-Ok.ensures.graph

pub tell_all-requires-clause-within : goal.tell_all-requires-clause-within
tell_all-requires-clause-within g c = c.requires.within

pub returns-in-Err-clause-leaves : goal.returns-in-Err-clause-leaves
returns-in-Err-clause-leaves g c = ([], Unopened refl refl, appends_none (g.O.Sink.content c.args.out.now))

pub returns-in-Ok-new-clause-leaves : goal.returns-in-Ok-new-clause-leaves
returns-in-Ok-new-clause-leaves g c = c.tell_all.ensures.leaves
