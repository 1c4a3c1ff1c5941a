use Rattle.mesh_links.proofs.Common.{refl, inl, Spares}
use Rattle.mesh_links.proofs.Left.{left_without}
use Rattle.mesh_links.proofs.Tied.{sole_gone}
use Rattle.mesh_links.proofs.ending.end_at.Goals as goal

pub returns-in-Some-clause-left : goal.returns-in-Some-clause-left
returns-in-Some-clause-left g c =
    let old = g.T.Table.content c.args.table.now in
    let some = c.in-Some.ensures.some in
    left_without (λ e. Spares c.args.which e.0 → ⊥) old old (g.T.Table.content c.remove.new.self) c.in-Some.key some.0 some.1 some.2 c.remove.ensures.removed (λ key. inl refl)

pub returns-in-Some-clause-done : goal.returns-in-Some-clause-done
returns-in-Some-clause-done g c =
    sole_gone (λ e. Spares c.args.which e.0) c.args.owners.now.entries (g.T.Table.content c.args.table.now) (g.T.Table.content c.remove.new.self) c.args.addr c.in-Some.key c.requires.owned c.in-Some.ensures.owner c.remove.ensures.removed
