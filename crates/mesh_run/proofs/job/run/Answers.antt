use Rattle.mesh_run.proofs.Common.{◌≡◌, Result, Err, EndsRun, ToldInCall, told, RunFault}
use Rattle.mesh_io.specs.declared.stop.Stop.TheVariants as stop
use Rattle.mesh_run.specs.declared.fault.RunFault.TheVariants as fault
use Rattle.mesh_run.proofs.Endings.{done_left, by_answer, completes}
use Rattle.mesh_run.proofs.job.run.Given.{Over}
use Rattle.mesh_run.proofs.job.run.Goals as goal
use Rattle.mesh_run.proofs.job.run.Goals.{After-run_stated}

-- what was told in the call
abbrev told_in : (g : Over) → After-run_stated g → ToldInCall
told_in g c =
    told (g.C.Clock.moments c.args.clock.now) (g.C.Clock.moments c.run_stated.new.clock) (g.A.Air.reports c.args.air.now) (g.A.Air.reports c.run_stated.new.air) (g.A.Air.attached c.run_stated.new.air)

-- what is left, where that is the answer
left : (g : Over) (c : After-run_stated g) (answer : Result (Unit {0}) RunFault) → c.run_stated.result ≡ answer
    → EndsRun c.args.input.now c.args.turns (told_in g c) (g.O.Sink.content c.args.out.now) (g.O.Sink.content c.run_stated.new.out) (g.O.Sink.faults c.args.out.now) (g.O.Sink.faults c.run_stated.new.out)
    (g.A.Air.faults c.args.air.now) (g.A.Air.faults c.run_stated.new.air) answer
left g c answer e =
    by_answer c.args.input.now c.args.turns (told_in g c) (g.O.Sink.content c.args.out.now) (g.O.Sink.content c.run_stated.new.out) (g.O.Sink.faults c.args.out.now) (g.O.Sink.faults c.run_stated.new.out)
    (g.A.Air.faults c.args.air.now) (g.A.Air.faults c.run_stated.new.air) c.run_stated.result answer e c.run_stated.ensures.ends

pub returns-clause-done : goal.returns-clause-done
returns-clause-done g c =
    done_left c.args.input.now c.args.turns (told_in g c) (g.O.Sink.content c.args.out.now) (g.O.Sink.content c.run_stated.new.out) (g.O.Sink.faults c.args.out.now) (g.O.Sink.faults c.run_stated.new.out)
    (g.A.Air.faults c.args.air.now) (g.A.Air.faults c.run_stated.new.air) c.run_stated.result c.run_stated.ensures.ends

pub returns-clause-refused : goal.returns-clause-refused
returns-clause-refused g c = λ number key e. left g c (Err (fault.Refused number key)) e

pub returns-clause-attach : goal.returns-clause-attach
returns-clause-attach g c = λ interface e. left g c (Err (fault.Attach interface)) e

pub returns-clause-turns : goal.returns-clause-turns
returns-clause-turns g c = λ count greatest end e. left g c (Err (fault.Turns count greatest end)) e

pub returns-clause-write : goal.returns-clause-write
returns-clause-write g c = λ e. left g c (Err (fault.Stopped stop.Write)) e

pub returns-clause-memory : goal.returns-clause-memory
returns-clause-memory g c = λ e. left g c (Err (fault.Stopped stop.Memory)) e

pub returns-clause-complete : goal.returns-clause-complete
returns-clause-complete g c =
    completes c.args.input.now c.args.turns (told_in g c) (g.O.Sink.content c.args.out.now) (g.O.Sink.content c.run_stated.new.out) (g.O.Sink.faults c.args.out.now) (g.O.Sink.faults c.run_stated.new.out)
    (g.A.Air.faults c.args.air.now) (g.A.Air.faults c.run_stated.new.air) c.run_stated.result c.run_stated.ensures.ends
