use Rattle.mesh_bases.proofs.Common.{arith, common_steps}
use Rattle.mesh_bases.proofs.held.holding.InformationBases.take_messages.Goals as goal

pub returns-clause-taken : goal.returns-clause-taken
returns-clause-taken g c = grind (arith, common_steps, c.in_ok-quiet.ensures.taken, c.requires.spelled, c.as_slice.ensures, c.in_ok-typed.ensures)
