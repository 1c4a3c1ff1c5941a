use Rattle.mesh_links.proofs.Common.{ℕ, ◌∙◌, sym, ap, Link, Linked, Unlinked, true_false}
use Rattle.mesh_atoms.specs.State.{is_symmetric}
use Rattle.mesh_links.proofs.Tied.{one_at}
use Rattle.mesh_links.proofs.status.selector_of.Goals as goal

pub returns-in_default : goal.returns-in_default
returns-in_default g c = Unlinked (λ link with. (let (key, until, found, has, symmetric) = with in c.in_default.ensures.none key (link, until) (found, has)))

pub returns-then-is_symmetric : goal.returns-then-is_symmetric
returns-then-is_symmetric g c =
    Linked c.in-Some.link.now (c.in-Some.field-0-0.now, c.in-Some.field-0-2, c.in-Some.ensures.some.0, c.in-Some.ensures.some.1, sym c.is_symmetric.ensures ∙ c.if-is_symmetric.true)

pub returns-else-is_symmetric : goal.returns-else-is_symmetric
returns-else-is_symmetric g c =
    Unlinked (λ link with. (
    let (key, until, found, has, symmetric) = with in
    let same = one_at (g.T.Table.content c.args.table.now) c.in-Some.field-0-0.now key (c.in-Some.link.now, c.in-Some.field-0-2) (link, until) c.in-Some.ensures.some.0 found (c.in-Some.ensures.only key (link, until) (found, has)) in
    true_false (c.is_symmetric.ensures ∙ (ap (λ (e : Link × ℕ). is_symmetric e.0 c.args.now) same ∙ symmetric)) c.if-is_symmetric.false))
