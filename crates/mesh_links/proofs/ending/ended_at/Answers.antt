use Rattle.mesh_links.proofs.Common.{ℕ, sym, subst, Link, Spares, true_false}
use Rattle.mesh_links.proofs.Tied.{sole, unowned, unlinked, same_of}
use Rattle.mesh_links.proofs.ending.ended_at.Goals as goal

pub returns-in_default-clause-none : goal.returns-in_default-clause-none
returns-in_default-clause-none g c key e found has = absurd (unowned c.args.owners.now.entries (g.T.Table.content c.args.table.now) key e c.args.addr c.requires found has c.in_default.ensures.value)

pub returns-in_default-get-clause-none : goal.returns-in_default-get-clause-none
returns-in_default-get-clause-none g c key e found has =
    absurd (unlinked c.args.owners.now.entries (g.T.Table.content c.args.table.now) key e c.args.addr c.in-Some.key.now c.requires found has (sym c.in-Some.ensures.value) c.in_default-get.ensures)

pub returns-then-is_spared-clause-none : goal.returns-then-is_spared-clause-none
returns-then-is_spared-clause-none g c key e found has =
    let one = (sole c.args.owners.now.entries (g.T.Table.content c.args.table.now) key e c.args.addr c.in-Some.key.now c.requires found has (sym c.in-Some.ensures.value)).1 in
    let same = same_of _ (c.in-Some-get.link.now, c.in-Some-get._until) e c.in-Some-get.ensures one in
    subst (λ (x : Link × ℕ). Spares c.args.which x.0) same (c.is_spared.ensures.0 c.if-is_spared.true)

pub returns-else-is_spared-clause-some : goal.returns-else-is_spared-clause-some
returns-else-is_spared-clause-some g c = ((c.in-Some-get.link.now, c.in-Some-get._until), sym c.in-Some-get.ensures, λ stays. true_false (c.is_spared.ensures.1 stays) c.if-is_spared.false)
