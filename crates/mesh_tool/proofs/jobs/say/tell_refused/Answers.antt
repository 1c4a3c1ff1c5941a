use Rattle.mesh_tool.proofs.jobs.say.tell_refused.Goals as goal

pub returns-clause-tells : goal.returns-clause-tells
returns-clause-tells g c = c.tell_line.ensures.tells
