use Rattle.mesh_settled.proofs.RouteLaw.{rows_are_least, next_hops_lead}
use Rattle.mesh_settled.proofs.law.settled_routers_lead.Goals as goal

pub returns-clause-rows : goal.returns-clause-rows
returns-clause-rows c = rows_are_least

pub returns-clause-next_hops : goal.returns-clause-next_hops
returns-clause-next_hops c = next_hops_lead
