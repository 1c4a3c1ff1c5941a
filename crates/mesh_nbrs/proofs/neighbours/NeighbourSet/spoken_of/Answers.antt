use Rattle.mesh_nbrs.proofs.neighbours.NeighbourSet.spoken_of.Goals as goal

pub returns : goal.returns
returns g c = rw (← c.self.view_is) c.all_spoken_of.ensures
