use Rattle.mesh_flood.proofs.Common.{common_steps, arith, get_or_past, distinct_none}
use Rattle.mesh_flood.proofs.flood.expire_all.Goals as goal

pub returns-clause-distinct : goal.returns-clause-distinct
returns-clause-distinct g c i = grind (arith, common_steps, get_or_past, distinct_none, c.loop-i.invariant.distinct)
