use Rattle.mesh_nbrs.proofs.Common.{sym, ◌∙◌}
use Rattle.mesh_nbrs.proofs.Owning.{owned_back, owned_put, owned_kept, keeps_same, on_err_so, on_ok_so}
use Rattle.mesh_nbrs.proofs.replacing.put_new.Goals as goal

pub returns-then-is_err-clause-owned : goal.returns-then-is_err-clause-owned
returns-then-is_err-clause-owned g c =
    let old = g.T.Table.content c.args.table.now in
    let new = g.T.Table.content c.own_and_put-put.new.table in
    owned_kept c.disown.new.owners.entries old new
    (owned_back c.args.owners.now.entries c.disown.new.owners.entries old c.args.originator c.args.addrs.now c.requires.owned c.requires.apart c.own_and_put-put.new.owners.entries c.own_and_put-put.ensures.others c.disown.ensures)
    (keeps_same old new (on_err_so c.own_and_put-put.result (sym c.is_err.ensures.value ∙ c.if-is_err.true) c.own_and_put-put.ensures.err))

pub returns-else-is_err-clause-owned : goal.returns-else-is_err-clause-owned
returns-else-is_err-clause-owned g c =
    let old = g.T.Table.content c.args.table.now in
    let new = g.T.Table.content c.own_and_put-put.new.table in
    let so = sym c.is_err.ensures.value ∙ c.if-is_err.false in
    owned_put c.args.owners.now.entries c.own_and_put-put.new.owners.entries old c.args.originator c.args.addrs.now c.requires.owned c.requires.apart new (c.args.neighbour, c.args.until) c.requires.absent c.requires.addrs
    (on_ok_so c.own_and_put-put.result so c.own_and_put-put.ensures.noted) (on_ok_so c.own_and_put-put.result so c.own_and_put-put.ensures.ok)
