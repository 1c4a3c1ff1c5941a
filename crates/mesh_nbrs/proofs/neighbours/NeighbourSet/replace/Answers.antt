use Rattle.mesh_nbrs.proofs.Common.{Some, ap, ◌∙◌, addr_equiv, same_addr}
use Rattle.mesh_nbrs.proofs.Sets.{set_there, set_elsewhere}
use Rattle.mesh_nbrs.proofs.Spoken.{others_kept, only_this}
use Rattle.mesh_nbrs.proofs.neighbours.NeighbourSet.replace.Goals as goal

pub put_owned-requires-clause-apart : goal.put_owned-requires-clause-apart
put_owned-requires-clause-apart g c =
    only_this (g.T.Table.content c.self.inside.table) (g.T.Table.content c.remove_others.new.table) c.args.originator c.args.addrs.now c.in_ok-found.found.items c.in_ok-found.ensures (rw c.deref.ensures.value at c.remove_others.ensures.gone)

pub returns-clause-ok : goal.returns-clause-ok
returns-clause-ok g c =
    let old = g.T.Table.content c.self.inside.table in
    let mid = g.T.Table.content c.remove_others.new.table in
    let new = g.T.Table.content c.put_owned.new.table in
    rw (← c.self.view_is) record {
      one = set_there mid new c.args.originator _ c.in_ok-put_owned.ensures.ok addr_equiv ∙ ap (λ n. Some (n, c.args.until)) c.in_ok-neighbour.ensures;
      others = λ o apart. rw (set_elsewhere mid new c.args.originator _ c.in_ok-put_owned.ensures.ok same_addr o apart)
          (others_kept old mid c.args.originator c.args.addrs.now c.in_ok-found.found.items c.in_ok-found.ensures (rw c.deref.ensures.value at c.remove_others.ensures.gone) o apart);
    }
