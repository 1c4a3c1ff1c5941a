use Rattle.mesh_nbrs.proofs.KnownLinks.{links_removed}
use Rattle.mesh_nbrs.proofs.two_hops.two_hops.TwoHopSet.drop_row.Goals as goal

pub invariant_of-self : goal.invariant_of-self
invariant_of-self g c = (c.remove.ensures.distinct, links_removed c.self.inside.links _ c.self.invariant.1 (record { link = c.args.link; addr = c.args.addr }) _ c.remove.ensures.removed)

pub returns-clause-removed : goal.returns-clause-removed
returns-clause-removed g c = rw (← c.self.view_is) c.remove.ensures.removed
