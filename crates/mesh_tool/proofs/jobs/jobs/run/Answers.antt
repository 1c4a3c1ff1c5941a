use Rattle.mesh_tool.proofs.Common.{[], ◌∷◌, ◌++◌, Err, None, ap, ◌∙◌, inl, inr, air_use, Leaves}
use Rattle.mesh_run.specs.declared.fault.RunFault.TheVariants.{Stopped}
use Rattle.mesh_tool.proofs.JobsLemmas.Outputs.{run_uses}
use Rattle.mesh_tool.proofs.jobs.jobs.run.Goals as goal

pub returns-in-Err-Attach-clause-leaves : goal.returns-in-Err-Attach-clause-leaves
unfolding Leaves
returns-in-Err-Attach-clause-leaves g c =
    let failed = c.in-Err-Attach.ensures.attach c.in-Err-Attach.interface (ap (λ fault. Err fault) c.in-Err-Attach.field-0-is) in ((failed.1, failed.0), failed.2)

pub returns-in-Err-Attach-clause-uses_air : goal.returns-in-Err-Attach-clause-uses_air
returns-in-Err-Attach-clause-uses_air g c =
    let failed = c.in-Err-Attach.ensures.attach c.in-Err-Attach.interface (ap (λ fault. Err fault) c.in-Err-Attach.field-0-is) in
    inr (inr (inr (inl (c.in-Err-Attach.interface, failed.0))))

pub returns-in-Err-Turns-clause-leaves : goal.returns-in-Err-Turns-clause-leaves
unfolding Leaves
returns-in-Err-Turns-clause-leaves g c =
    let spent = c.in-Err-Turns.ensures.turns c.in-Err-Turns.turns c.in-Err-Turns.moment c.in-Err-Turns.end (ap (λ fault. Err fault) c.in-Err-Turns.field-0-is) in
    ((spent.0, spent.1), spent.2)

pub returns-in-Err-Turns-clause-uses_air : goal.returns-in-Err-Turns-clause-uses_air
returns-in-Err-Turns-clause-uses_air g c =
    let spent = c.in-Err-Turns.ensures.turns c.in-Err-Turns.turns c.in-Err-Turns.moment c.in-Err-Turns.end (ap (λ fault. Err fault) c.in-Err-Turns.field-0-is) in
    inr (inr (inl (c.in-Err-Turns.moment, c.in-Err-Turns.end, rw spent.0 at spent.1)))

pub returns-in-Err-Stopped-Write-clause-uses_air : goal.returns-in-Err-Stopped-Write-clause-uses_air
returns-in-Err-Stopped-Write-clause-uses_air g c =
    let air = air_use g.A.Air g.C.Clock c.args.air.now c.run.new.air c.args.clock.now c.run.new.clock in
    let cut = c.in-Err-Stopped-Write.ensures.write (ap (λ fault. Err fault) (c.in-Err-Stopped-Write.field-0-is ∙ ap (λ stop. Stopped stop) c.in-Err-Stopped-Write.field-0-0-is)) in
    inr (run_uses c.args.octets.now c.args.turns air.told (cut.1 ++ cut.2 ∷ []) cut.3 cut.4)

pub returns-in-Err-Stopped-Memory-clause-leaves : goal.returns-in-Err-Stopped-Memory-clause-leaves
unfolding Leaves
returns-in-Err-Stopped-Memory-clause-leaves g c =
    c.in-Err-Stopped-Memory.ensures.memory (ap (λ fault. Err fault) (c.in-Err-Stopped-Memory.field-0-is ∙ ap (λ stop. Stopped stop) c.in-Err-Stopped-Memory.field-0-0-is))

pub returns-in-Err-Stopped-Memory-clause-uses_air : goal.returns-in-Err-Stopped-Memory-clause-uses_air
returns-in-Err-Stopped-Memory-clause-uses_air g c =
    let air = air_use g.A.Air g.C.Clock c.args.air.now c.run.new.air c.args.clock.now c.run.new.clock in
    let first = c.in-Err-Stopped-Memory.ensures.memory (ap (λ fault. Err fault) (c.in-Err-Stopped-Memory.field-0-is ∙ ap (λ stop. Stopped stop) c.in-Err-Stopped-Memory.field-0-0-is)) in
    inr (run_uses c.args.octets.now c.args.turns air.told first.0 None first.1)
