use Rattle.mesh_nbrs.proofs.losts.LostSet.expire_and_count.Goals as goal

pub returns-clause-expired : goal.returns-clause-expired
returns-clause-expired g c = rw (← c.self.view_is) c.expire.ensures.kept
