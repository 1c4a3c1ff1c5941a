use Rattle.mesh_links.proofs.Common.{◌≡◌, ℕ, sym, subst, ◌∙◌, Some, on_ok_weaker, Link, admitted}
use Rattle.mesh_links.proofs.Admitted.{changed_at-still, found_at, admitted_by}
use Rattle.mesh_links.proofs.admittance.admit_at.Goals as goal

pub returns-in-Some-clause-ok : goal.returns-in-Some-clause-ok
returns-in-Some-clause-ok g c =
    let (e, at, is) = c.in-Some.ensures.some in
    on_ok_weaker c.set_ruling.result (λ set. admitted_by c.args.rule.now c.args.hold c.args.now (g.T.Table.content c.args.table.now) (g.T.Table.content c.set_ruling.new.table) c.args.place c.in-Some.key c.in-Some.ruling e c.requires.distinct at is set) c.set_ruling.ensures.ok

pub returns-in-None-clause-ok : goal.returns-in-None-clause-ok
returns-in-None-clause-ok g c key e at =
    let old = g.T.Table.content c.args.table.now in
    let there = found_at key e old c.args.place c.requires.distinct at in
    changed_at-still key (admitted c.args.rule.now c.args.hold c.args.now) old c.requires.distinct (λ entry found. (
    let both : Some entry ≡ Some e = sym found ∙ there in
    let same : e ≡ entry = cc in
    subst (λ (x : Link × ℕ). admitted c.args.rule.now c.args.hold c.args.now x ≡ x) same (c.in-None.ensures.none key e at)))
