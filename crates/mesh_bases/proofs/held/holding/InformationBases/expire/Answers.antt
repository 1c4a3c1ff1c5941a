use Rattle.mesh_bases.proofs.Common.{arith, common_steps}
use Rattle.mesh_bases.proofs.HeldLemmas.Quiet.{near_stays}
use Rattle.mesh_bases.proofs.held.holding.InformationBases.expire.Goals as goal

pub returns-clause-near : goal.returns-clause-near
returns-clause-near g c same = grind (arith, common_steps, near_stays, c.in_ok-near.ensures.same, c.in_ok-near.ensures.when.0)
