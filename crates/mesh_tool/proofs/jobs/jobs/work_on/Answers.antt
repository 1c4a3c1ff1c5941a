use Rattle.mesh_tool.proofs.jobs.jobs.work_on.Goals as goal

pub returns-in-Run-clause-uses_air : goal.returns-in-Run-clause-uses_air
returns-in-Run-clause-uses_air g c = rw c.in-Run.is c.run.ensures.uses_air
