use Rattle.mesh_nbrs.proofs.KnownLinks.{links_live}
use Rattle.mesh_nbrs.proofs.two_hops.two_hops.TwoHopSet.expire_and_count.Goals as goal

pub invariant_of-self : goal.invariant_of-self
invariant_of-self g c = (c.expire.ensures.distinct, links_live c.self.inside.links _ c.self.invariant.1 c.args.now _ c.expire.ensures.kept)

pub returns-clause-expired : goal.returns-clause-expired
returns-clause-expired g c = rw (← c.self.view_is) c.expire.ensures.kept
