use Rattle.mesh_nbrs.proofs.Common.{by_result}
use Rattle.mesh_nbrs.proofs.Owning.{owned_kept, keeps_put, keeps_same}
use Rattle.mesh_nbrs.proofs.replacing.put_owned.Goals as goal

pub returns-then-has_just-clause-owned : goal.returns-then-has_just-clause-owned
returns-then-has_just-clause-owned g c =
    let old = g.T.Table.content c.args.table.now in
    let new = g.T.Table.content c.put.new.self in
    owned_kept c.args.owners.now.entries old new c.requires.owned
    (by_result _ _ _ c.put.result c.put.ensures.ok c.put.ensures.err
    (λ put. keeps_put old new c.args.originator c.args.addrs.now (c.args.neighbour, c.args.until) (c.has_just.ensures.0 c.if-has_just.true) c.requires.addrs put) (λ same. keeps_same old new same))
