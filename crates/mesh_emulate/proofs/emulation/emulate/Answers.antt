use Rattle.mesh_emulate.proofs.Common.{[], Some, refl, Of_nothing, wants_of, appends_none, keeps_same}
use Rattle.mesh_emulate.proofs.Emulations.{makes, stopped, unbegun_refused, unbegun_written}
use Rattle.mesh_io.specs.declared.stop.Stop.TheVariants as stop
use Rattle.mesh_emulate.proofs.emulation.emulate.Goals as goal

pub returns-in-Ok-tell-clause-done : goal.returns-in-Ok-tell-clause-done
returns-in-Ok-tell-clause-done g c =
    let (pieces, made, stands) = c.in-Ok-tell.ensures.leaves in
    (pieces, makes c.args.input.now (wants_of c.args.wanted.now) c.in-Ok.ready c.in-Ok.ensures.ready pieces (Some tt) made, stands)

pub returns-in-Err-clause-refused : goal.returns-in-Err-clause-refused
returns-in-Err-clause-refused g c =
    λ number key e. (unbegun_refused c.args.input.now (wants_of c.args.wanted.now) c.in-Err.fault c.unbegun.result c.unbegun.ensures c.in-Err.ensures.refused number key e, keeps_same (g.O.Sink.content c.args.out.now))

pub returns-in-Err-clause-write : goal.returns-in-Err-clause-write
returns-in-Err-clause-write g c = λ e. absurd (unbegun_written c.in-Err.fault c.unbegun.result c.unbegun.ensures e)

pub returns-in-Err-clause-memory : goal.returns-in-Err-clause-memory
returns-in-Err-clause-memory g c = λ e. ([], Of_nothing refl, appends_none (g.O.Sink.content c.args.out.now))

pub returns-clause-write : goal.returns-clause-write
returns-clause-write g c =
    λ e. stopped c.args.input.now (wants_of c.args.wanted.now) c.in-Ok.ready c.in-Ok.ensures.ready (g.O.Sink.content c.args.out.now) (g.O.Sink.content c.tell.new.out)
    (g.O.Sink.faults c.args.out.now) (g.O.Sink.faults c.tell.new.out) c.in-Err-tell.stop stop.Write e c.in-Err-tell.ensures.leaves

pub returns-clause-memory : goal.returns-clause-memory
returns-clause-memory g c =
    λ e. stopped c.args.input.now (wants_of c.args.wanted.now) c.in-Ok.ready c.in-Ok.ensures.ready (g.O.Sink.content c.args.out.now) (g.O.Sink.content c.tell.new.out)
    (g.O.Sink.faults c.args.out.now) (g.O.Sink.faults c.tell.new.out) c.in-Err-tell.stop stop.Memory e c.in-Err-tell.ensures.leaves
