use Rattle.mesh_nbrs.proofs.Owning.{owned_removed}
use Rattle.mesh_nbrs.proofs.owners.remove_owned.Goals as goal

pub returns-clause-owned : goal.returns-clause-owned
returns-clause-owned g c =
    owned_removed c.args.owners.now.entries c.disown_at.new.owners.entries (g.T.Table.content c.args.table.now) (g.T.Table.content c.remove.new.self) c.args.originator c.requires c.disown_at.ensures c.remove.ensures.removed
