use Rattle.mesh_links.proofs.links.LinkSet.are_unchanged.Goals as goal

pub returns : goal.returns
returns g c = rw (← c.self.view_is) c.are_all_unchanged.ensures
