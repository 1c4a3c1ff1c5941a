use Rattle.mesh_nhdp.proofs.Common.{sym}
use Rattle.mesh_nhdp.proofs.Expiry.{written_back}
use Rattle.mesh_nhdp.proofs.Unchanged.{beside_is}
use Rattle.mesh_nhdp.proofs.staying.expire_beside.Goals as goal

pub returns : goal.returns
returns g c =
    let two_hops = c.expire_two_hops-same.ensures in
    let gone = c.expire_and_count-gone.ensures in
    rw (← c.sets.view_is, ← c.deref_mut.ensures.value, written_back c.sets.inside.two_hops.len c.expire_two_hops-same.new.sets c.deref_mut.result.now two_hops.length (sym c.deref_mut.ensures.len))
    (beside_is c.args.now c.sets.inside.links.items c.deref_mut.result.now c.expire_two_hops-same.new.sets c.sets.inside.neighbours c.sets.inside.losts c.expire_and_count-gone.new.self c.expire_two_hops-same.result c.is_none_gone.result
    c.expire_and_count-gone.result two_hops.length two_hops.each two_hops.distinct two_hops.same two_hops.changed gone.expired gone.distinct gone.count gone.none c.is_none_gone.ensures)
