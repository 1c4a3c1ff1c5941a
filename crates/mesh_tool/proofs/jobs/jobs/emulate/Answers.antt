use Rattle.mesh_tool.proofs.Common.{Err, ap, Leaves}
use Rattle.mesh_emulate.proofs.Refusals.{emulated_not_refused}
use Rattle.mesh_emulate.specs.Wants.{wants_of}
use Rattle.mesh_tool.proofs.jobs.jobs.emulate.Goals as goal

pub returns-in-Ok-clause-leaves : goal.returns-in-Ok-clause-leaves
unfolding Leaves
returns-in-Ok-clause-leaves g c =
    let done = c.in-Ok.ensures.done in
    (tt, done, tt, λ number key refused. emulated_not_refused c.args.octets.now (wants_of c.args.wanted.now) done.1.0 number key refused)

pub returns-in-Err-Refused-clause-leaves : goal.returns-in-Err-Refused-clause-leaves
unfolding Leaves
returns-in-Err-Refused-clause-leaves g c =
    c.in-Err-Refused.ensures.refused c.in-Err-Refused.number c.in-Err-Refused.key (ap (λ fault. Err fault) c.in-Err-Refused.field-0-is)
