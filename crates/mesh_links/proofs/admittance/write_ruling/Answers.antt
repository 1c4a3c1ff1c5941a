use Rattle.mesh_links.proofs.Common.{arith, common_steps, ap, ◌∙◌, Link, link_equiv, changed_at-agrees, changed_at-absent, found_none, found_some, ruled}
use Rattle.mesh_links.proofs.admittance.write_ruling.Goals as goal

pub returns-in-Some : goal.returns-in-Some
returns-in-Some g c =
    c.value_mut.follows.holds _
    ∙ changed_at-agrees link_equiv c.args.key.now _ (λ e. ((ruled c.args.ruling e.0).0, e.1)) (g.T.Table.content c.args.table.now) c.value_mut.ensures.distinct (λ entry found. ap (λ (l : Link). ((ruled c.args.ruling l).0, entry.1)) (found_some _ _ _ _ c.in-Some.ensures.value found))

pub returns-in_default : goal.returns-in_default
returns-in_default g c = grind (arith, common_steps, changed_at-absent, found_none, c.in_default.ensures.value)
