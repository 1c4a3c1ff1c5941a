use Rattle.mesh_tool.proofs.Common.{sym, Did}
use Rattle.mesh_tool.proofs.jobs.jobs.do_asked.Goals as goal

pub returns-in-Ok-clause-does : goal.returns-in-Ok-clause-does
returns-in-Ok-clause-does g c = λ err. Did c.in-Ok.job (sym c.in-Ok.ensures.exact) (c.do_job.ensures.does err)
