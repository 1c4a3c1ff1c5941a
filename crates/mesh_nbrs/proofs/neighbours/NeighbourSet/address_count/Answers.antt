use Rattle.mesh_nbrs.proofs.Common.{keys_of, length-keys_of, ◌∙◌, sym}
use Rattle.mesh_nbrs.proofs.Owning.{held_by}
use Rattle.mesh_nbrs.proofs.neighbours.NeighbourSet.address_count.Goals as goal

pub returns : goal.returns
returns g c =
    let owners = c.self.inside.owners.entries in
    rw (← c.self.view_is) (keys_of owners, c.len.ensures.unique, length-keys_of owners ∙ sym c.len.ensures.len, held_by owners (g.T.Table.content c.self.inside.table) c.self.invariant.1)
