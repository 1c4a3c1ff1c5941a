use Rattle.mesh_emulate.proofs.Common.{wants_of}
use Rattle.mesh_emulate.proofs.Preparing.{name_refused}
use Rattle.mesh_emulate.proofs.prepared.prepare.Goals as goal

pub returns-in-Err-errand_of-clause-refused : goal.returns-in-Err-errand_of-clause-refused
returns-in-Err-errand_of-clause-refused c =
    name_refused c.args.input.now (wants_of c.args.wanted.now) c.in-Ok.scenario c.in-Err-errand_of.fault c.in-Ok.ensures.stated c.in-Err-errand_of.ensures.unknown
