use Rattle.mesh_expire.proofs.Common.{arith, common_steps, on_err_of, sym, set_value_same}
use Rattle.mesh_expire.proofs.Laws.{changed_at-absent}
use Rattle.mesh_expire.proofs.IndexLemmas.Moments.{written}
use Rattle.mesh_expire.proofs.index.index_table.set_until_in.Goals as goal

pub returns-in_default-clause-ok : goal.returns-in_default-clause-ok
returns-in_default-clause-ok g c = grind (arith, common_steps, changed_at-absent, c.in_default.ensures.value)

pub returns-in_err-move_moment-clause-err : goal.returns-in_err-move_moment-clause-err
returns-in_err-move_moment-clause-err g c = grind (arith, common_steps, on_err_of, set_value_same, c.in-Some.ensures.value)

pub returns-clause-ok : goal.returns-clause-ok
returns-clause-ok g c =
    written g.K.PartialEq.eq g.met.K.Eq.laws c.args.map.now.entries _ c.args.key.now (λ e. (e.0, c.args.until)) c.in-Some.entry.now c.in-Some.ensures.unique
    (sym c.in-Some.ensures.value) (c.get_mut.follows.holds (c.in-Some.entry.now.0, c.args.until)).0
