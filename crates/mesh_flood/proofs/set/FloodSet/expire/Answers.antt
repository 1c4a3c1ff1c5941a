use Rattle.mesh_flood.proofs.set.FloodSet.expire.Goals as goal

pub returns-clause-kept : goal.returns-clause-kept
returns-clause-kept g c = rw (← c.self.view_is) c.expire.ensures.kept
