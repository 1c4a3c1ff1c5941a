use Rattle.mesh_expire.proofs.Common.{◌<◌, [], sym, subst, unwrap_or, times_in}
use Rattle.mesh_expire.proofs.IndexLemmas.Moments.{first_stands, takes_only}
use Rattle.mesh_expire.proofs.index.moments.take_expired.Goals as goal

pub returns-clause-some : goal.returns-clause-some
returns-clause-some g c =
    let eq = g.K.PartialEq.eq in
    let stands = first_stands eq g.met.K.Eq.laws c.in_ok-moment.bucket.now c.first-key.result c.first-key.ensures in
    (c.in_ok-moment.moment.now, c.if-now-least.false, subst (λ o. 0 < times_in eq (unwrap_or o []) c.first-key.result) (sym c.in_ok-moment.ensures.value) stands, c.take_key.ensures)

pub returns-then-has_one-clause-some : goal.returns-then-has_one-clause-some
returns-then-has_one-clause-some g c =
    let eq = g.K.PartialEq.eq in
    let stands = first_stands eq g.met.K.Eq.laws c.in_ok-moment.bucket.now c.first-key.result c.first-key.ensures in
    let gone = takes_only eq c.args.moments.now c.remove.new.self c.in_ok-moment.moment.now c.first-key.result c.in_ok-moment.bucket.now c.in_ok-moment.ensures.value c.first-key.ensures (c.has_one.ensures c.if-has_one.true) (λ m. c.remove.ensures.updates.0 m) in
    (c.in_ok-moment.moment.now, c.if-now-least.false, subst (λ o. 0 < times_in eq (unwrap_or o []) c.first-key.result) (sym c.in_ok-moment.ensures.value) stands, gone)
