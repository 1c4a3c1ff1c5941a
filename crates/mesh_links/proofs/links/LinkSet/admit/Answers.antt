use Rattle.mesh_links.proofs.Common.{arith, common_steps}
use Rattle.mesh_links.proofs.Tied.{owned_fewer}
use Rattle.mesh_links.proofs.links.LinkSet.admit.Goals as goal

pub invariant_of-self : goal.invariant_of-self
invariant_of-self g c = grind (arith, common_steps, owned_fewer, c.self.invariant.2, c.admit_all.ensures.fewer, c.admit_all.ensures.distinct, c.admit_all.ensures.room)
