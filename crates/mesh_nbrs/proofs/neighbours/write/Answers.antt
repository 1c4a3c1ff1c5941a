use Rattle.mesh_nbrs.proofs.Common.{arith, common_steps, ap, ◌∙◌, changed_at-agrees, changed_at-absent, found_none, found_some, addr_equiv, Neighbour, by_summary}
use Rattle.mesh_nbrs.proofs.neighbours.write.Goals as goal

pub returns-in-Some : goal.returns-in-Some
returns-in-Some g c =
    c.value_mut.follows.holds _
    ∙ changed_at-agrees addr_equiv c.args.originator.now _ _ (g.T.Table.content c.args.table.now) c.value_mut.ensures.distinct (λ entry found. ap (λ (v : Neighbour). (by_summary c.args.summary.now v, entry.1)) (found_some _ _ _ _ c.in-Some.ensures.value found))

pub returns-in_default : goal.returns-in_default
returns-in_default g c = grind (arith, common_steps, changed_at-absent, found_none, c.in_default.ensures.value)
