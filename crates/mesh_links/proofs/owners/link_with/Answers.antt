use Rattle.mesh_links.proofs.Common.{◌≡◌, ℕ, sym, subst, Contains, Link, find, link_eq, true_false}
use Rattle.mesh_links.proofs.Tied.{sole, unowned, unlinked, same_of}
use Rattle.mesh_links.proofs.owners.link_with.Goals as goal

pub returns-in_default-clause-none : goal.returns-in_default-clause-none
returns-in_default-clause-none g c key e with = unowned c.args.owners.now.entries (g.T.Table.content c.args.table.now) key e c.args.addr c.requires with.0 with.1 c.in_default.ensures.value

pub returns-in_default-get-clause-none : goal.returns-in_default-get-clause-none
returns-in_default-get-clause-none g c key e with =
    unlinked c.args.owners.now.entries (g.T.Table.content c.args.table.now) key e c.args.addr c.in-Some.key.now c.requires with.0 with.1 (sym c.in-Some.ensures.value) c.in_default-get.ensures

pub returns-then-contains-clause-only : goal.returns-then-contains-clause-only
returns-then-contains-clause-only g c key other with =
    (sole c.args.owners.now.entries (g.T.Table.content c.args.table.now) key other c.args.addr c.in-Some.key.now c.requires with.0 with.1 (sym c.in-Some.ensures.value)).0

pub returns-else-contains-clause-none : goal.returns-else-contains-clause-none
returns-else-contains-clause-none g c key e with =
    let one = (sole c.args.owners.now.entries (g.T.Table.content c.args.table.now) key e c.args.addr c.in-Some.key.now c.requires with.0 with.1 (sym c.in-Some.ensures.value)).1 in
    let same : (c.in-Some-get.link.now, c.in-Some-get.until) ≡ e = same_of (find link_eq (g.T.Table.content c.args.table.now) c.in-Some.key.now) (c.in-Some-get.link.now, c.in-Some-get.until) e c.in-Some-get.ensures one in
    let has : Contains c.in-Some-get.link.now.addrs c.args.addr = subst (λ (x : Link × ℕ). Contains x.0.addrs c.args.addr) (sym same) with.1 in
    true_false (c.contains.ensures.1 (rw c.as_slice.ensures has)) c.if-contains.false
