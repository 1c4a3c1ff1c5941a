use Rattle.mesh_links.proofs.Common.{ap, ◌∙◌, LinkKey, Link, Base, link_eq, changed_at, ruled}
use Rattle.mesh_links.proofs.Admitted.{changed_at-twice}
use Rattle.mesh_links.proofs.admittance.set_ruling.Goals as goal

pub returns-clause-ok : goal.returns-clause-ok
returns-clause-ok g c =
    c.write_ruling.ensures
    ∙ ap (λ (base : Base LinkKey Link). changed_at link_eq base c.args.key (λ e. ((ruled c.args.ruling e.0).0, e.1))) c.in_ok-set_until.ensures.ok
    ∙ changed_at-twice c.args.key (λ e. (e.0, c.args.ruling.until)) (λ e. ((ruled c.args.ruling e.0).0, e.1)) (g.T.Table.content c.args.table.now)
