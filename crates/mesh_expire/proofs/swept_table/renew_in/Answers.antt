use Rattle.mesh_expire.proofs.Common.{arith, common_steps, sym}
use Rattle.mesh_expire.proofs.Laws.{changed_at-absent}
use Rattle.mesh_expire.proofs.IndexLemmas.Moments.{written}
use Rattle.mesh_expire.proofs.swept_table.renew_in.Goals as goal

pub returns-in_err-entry-clause-changed : goal.returns-in_err-entry-clause-changed
returns-in_err-entry-clause-changed g c = grind (arith, common_steps, changed_at-absent, c.in_err-entry.ensures.value)

pub returns-clause-changed : goal.returns-clause-changed
returns-clause-changed g c =
    rw c.replace-before.ensures.after
    (written g.K.PartialEq.eq g.met.K.Eq.laws c.args.map.now.entries _ c.args.key.now (λ _. (c.args.value, c.args.until)) c.in_ok-entry.entry.now c.in_ok-entry.ensures.unique
    (sym c.in_ok-entry.ensures.value) (c.get_mut.follows.holds (c.args.value, c.args.until)).0)
