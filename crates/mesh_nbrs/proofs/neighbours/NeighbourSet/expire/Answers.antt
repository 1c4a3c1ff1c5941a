use Rattle.mesh_nbrs.proofs.Common.{on_ok_weaker}
use Rattle.mesh_nbrs.proofs.ByAddress.{kept_noted}
use Rattle.mesh_nbrs.proofs.Owning.{owned_kept}
use Rattle.mesh_nbrs.proofs.Summaries.{restored}
use Rattle.mesh_nbrs.proofs.neighbours.NeighbourSet.expire.Goals as goal

pub returns-clause-ok : goal.returns-clause-ok
returns-clause-ok g c = rw (← c.self.view_is) (on_ok_weaker c.renew_all.result
    (λ told o. restored c.args.notes.now _ _ _ (kept_noted c.args.notes.now c.in_ok-parts.parts.entries c.in_ok-parts.ensures _ _ (c.end_owned.ensures.kept o)) (told c.args.notes.now c.in_ok-parts.ensures o)) c.renew_all.ensures.ok)

pub invariant_of-self : goal.invariant_of-self
invariant_of-self g c = (
  c.renew_all.ensures.distinct,
  owned_kept c.end_owned.new.owners.entries (g.T.Table.content c.end_owned.new.table) (g.T.Table.content c.renew_all.new.table) c.end_owned.ensures.owned c.renew_all.ensures.addrs,
)
