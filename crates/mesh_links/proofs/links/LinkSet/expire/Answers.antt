use Rattle.mesh_links.proofs.Tied.{fewer_expired, owned_fewer, owned_purged}
use Rattle.mesh_links.proofs.links.LinkSet.expire.Goals as goal

pub invariant_of-self : goal.invariant_of-self
invariant_of-self g c =
    let old = g.T.Table.content c.self.inside.table in
    let new = g.T.Table.content c.expire_all-gone.new.table in
    let owned = owned_fewer c.self.inside.owners.entries old new c.self.invariant.2 (fewer_expired c.args.now old new c.expire_all-gone.ensures.expired) in
    (c.expire_all-gone.ensures.distinct, c.expire_all-gone.ensures.room, owned_purged c.self.inside.owners.entries c.purge_after.new.owners.entries new owned c.purge_after.ensures.kept)
