use Rattle.mesh_nbrs.proofs.Common.{arith, common_steps, ℕ, ap, refl, ◌∙◌, addr_eq, Neighbour, by_summary, changed_at}
use Rattle.mesh_nbrs.proofs.Owning.{keeps_changed, keeps_same, keeps_twice}
use Rattle.mesh_nbrs.proofs.Walks.{changed_at-twice}
use Rattle.mesh_nbrs.proofs.neighbours.renew.Goals as goal

pub returns-clause-ok : goal.returns-clause-ok
returns-clause-ok g c =
    c.in_ok-set_until.ensures.ok
    ∙ ap (λ l. changed_at addr_eq l c.args.originator.now (λ e. (e.0, c.args.summary.now.until))) c.write.ensures
    ∙ changed_at-twice addr_eq c.args.originator.now (λ e. (by_summary c.args.summary.now e.0, e.1)) (λ e. (e.0, c.args.summary.now.until)) (g.T.Table.content c.args.table.now)

pub returns-in_err-set_until-clause-addrs : goal.returns-in_err-set_until-clause-addrs
returns-in_err-set_until-clause-addrs g c = grind (arith, common_steps, keeps_twice, keeps_changed, keeps_same, c.write.ensures, c.in_err-set_until.ensures.err)

pub returns-clause-addrs : goal.returns-clause-addrs
returns-clause-addrs g c =
    let old = g.T.Table.content c.args.table.now in
    let mid = g.T.Table.content c.write.new.table in
    let new = g.T.Table.content c.set_until.new.self in
    keeps_twice old mid new (keeps_changed old mid c.args.originator.now (λ (e : Neighbour × ℕ). (by_summary c.args.summary.now e.0, e.1)) (λ e. refl) c.write.ensures)
    (keeps_changed mid new c.args.originator.now (λ (e : Neighbour × ℕ). (e.0, c.args.summary.now.until)) (λ e. refl) c.in_ok-set_until.ensures.ok)
