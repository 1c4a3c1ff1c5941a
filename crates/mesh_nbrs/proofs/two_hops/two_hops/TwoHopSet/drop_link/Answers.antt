use Rattle.mesh_nbrs.proofs.KnownLinks.{links_dropped}
use Rattle.mesh_nbrs.proofs.two_hops.two_hops.TwoHopSet.drop_link.Goals as goal

pub invariant_of-self-2 : goal.invariant_of-self-2
invariant_of-self-2 g c = (c.drop_all.ensures.distinct, links_dropped c.self.inside.links _ c.self.invariant.1 c.remove.new.self _ c.args.link c.remove.ensures.updates c.drop_all.ensures.dropped)
