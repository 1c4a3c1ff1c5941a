use Rattle.mesh_links.proofs.Common.{arith, common_steps, ap, ◌∙◌, trimmed, link_equiv, changed_at-agrees, changed_at-absent, found_none, found_some, Link}
use Rattle.mesh_links.proofs.expiry.trim_at.Goals as goal

pub returns-in-Some : goal.returns-in-Some
returns-in-Some g c =
    c.value_mut.follows.holds _
    ∙ changed_at-agrees link_equiv c.args.key.now _ (trimmed c.args.now) (g.T.Table.content c.args.table.now) c.value_mut.ensures.distinct (λ entry found. c.trim.ensures.trimmed entry.1 ∙ ap (λ (l : Link). trimmed c.args.now (l, entry.1)) (found_some _ _ _ _ c.in-Some.ensures.value found))

pub returns-in_default : goal.returns-in_default
returns-in_default g c = grind (arith, common_steps, changed_at-absent, found_none, c.in_default.ensures.value)
