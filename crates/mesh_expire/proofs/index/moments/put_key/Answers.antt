use Rattle.mesh_expire.proofs.Common.{arith, common_steps, Some, cond, is_some, sym, ap, ◌∙◌, nat_cmp, get, is_at, set_value_same}
use Rattle.std.proofs.lemmas.Result.{on_ok_weaker}
use Rattle.mesh_expire.proofs.IndexLemmas.Moments.{puts_behind}
use Rattle.mesh_expire.proofs.index.moments.put_key.Goals as goal

pub returns-in-Some-clause-ok : goal.returns-in-Some-clause-ok
returns-in-Some-clause-ok g c =
    let old = c.args.moments.now in
    let sets = ((c.get_mut.follows.holds c.push.new.self).3 (ap is_some (sym c.in-Some.ensures.value))).0 in
    on_ok_weaker c.push.result (λ h. puts_behind g.K.PartialEq.eq old (c.get_mut.follows.lender c.push.new.self) c.args.moment c.args.key c.in-Some.bucket.now c.in-Some.ensures.value
    (λ m. sets m ∙ ap (λ w. cond (is_at (nat_cmp c.args.moment) m) (Some w) (get nat_cmp old m)) h)) c.push.ensures.ok

pub returns-in-Some-clause-err : goal.returns-in-Some-clause-err
returns-in-Some-clause-err g c = grind (arith, common_steps, set_value_same, is_at, c.in-Some.ensures.value, c.push.ensures.err)
