use Rattle.mesh_expire.proofs.Common.{sym, ap, option_map}
use Rattle.mesh_expire.proofs.Laws.{changed_at-absent, distinct-changed_at}
use Rattle.mesh_expire.proofs.Places.{changes}
use Rattle.mesh_expire.proofs.list_table.renew_in.Goals as goal

pub returns-in-Some-clause-distinct : goal.returns-in-Some-clause-distinct
returns-in-Some-clause-distinct g c =
    rw (c.replace-before.ensures.after, (changes g.met.K.Eq.laws c.args.key.now (λ _. (c.args.value, c.args.until)) c.args.entries.now.items c.in-Some.i c.index_mut.result.now c.index_mut.ensures.value c.in-Some.ensures.some c.requires).0)
    (distinct-changed_at g.K.PartialEq.eq c.args.key.now _ c.args.entries.now.items c.requires)

pub returns-in-Some-clause-before : goal.returns-in-Some-clause-before
returns-in-Some-clause-before g c =
    let was = (changes g.met.K.Eq.laws c.args.key.now (λ _. (c.args.value, c.args.until)) c.args.entries.now.items c.in-Some.i c.index_mut.result.now c.index_mut.ensures.value c.in-Some.ensures.some c.requires).1 in
    rw c.replace-before.ensures.value (ap (option_map (λ e. e.0)) (sym was))

pub returns-in-Some-clause-changed : goal.returns-in-Some-clause-changed
returns-in-Some-clause-changed g c =
    rw c.replace-before.ensures.after
    (changes g.met.K.Eq.laws c.args.key.now (λ _. (c.args.value, c.args.until)) c.args.entries.now.items c.in-Some.i c.index_mut.result.now c.index_mut.ensures.value c.in-Some.ensures.some c.requires).0

pub returns-in-None-clause-changed : goal.returns-in-None-clause-changed
returns-in-None-clause-changed g c = sym (changed_at-absent g.K.PartialEq.eq c.args.key.now (λ _. (c.args.value, c.args.until)) c.args.entries.now.items c.in-None.ensures.none)
