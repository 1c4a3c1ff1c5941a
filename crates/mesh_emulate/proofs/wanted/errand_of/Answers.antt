use Rattle.mesh_emulate.proofs.Common.{wants_of}
use Rattle.mesh_emulate.proofs.Preparing.{start_known, probe_refused}
use Rattle.mesh_emulate.proofs.wanted.errand_of.Goals as goal

pub returns-in-Err-origin_of-clause-unknown : goal.returns-in-Err-origin_of-clause-unknown
returns-in-Err-origin_of-clause-unknown c =
    probe_refused c.args.scenario.now (wants_of c.args.wanted.now) c.in-Err-origin_of.fault
    (start_known c.args.scenario.now (wants_of c.args.wanted.now).send c.in-Ok.send c.in-Ok.ensures.found) c.in-Err-origin_of.ensures.unknown
