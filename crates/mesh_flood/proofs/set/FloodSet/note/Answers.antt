use Rattle.mesh_flood.proofs.set.FloodSet.note.Goals as goal

pub returns-then-wanted-clause-ok : goal.returns-then-wanted-clause-ok
returns-then-wanted-clause-ok g c = rw (c.if-wanted.true, ← c.self.view_is) c.put.ensures.ok
