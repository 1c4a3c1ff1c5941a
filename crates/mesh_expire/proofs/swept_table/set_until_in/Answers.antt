use Rattle.mesh_expire.proofs.Common.{arith, common_steps, sym}
use Rattle.mesh_expire.proofs.Laws.{changed_at-absent}
use Rattle.mesh_expire.proofs.IndexLemmas.Moments.{written}
use Rattle.mesh_expire.proofs.swept_table.set_until_in.Goals as goal

pub returns-in_default-clause-changed : goal.returns-in_default-clause-changed
returns-in_default-clause-changed g c = grind (arith, common_steps, changed_at-absent, c.in_default.ensures.value)

pub returns-clause-changed : goal.returns-clause-changed
returns-clause-changed g c =
    written g.K.PartialEq.eq g.met.K.Eq.laws c.args.map.now.entries _ c.args.key.now (λ e. (e.0, c.args.until)) c.in-Some.entry.now c.in-Some.ensures.unique
    (sym c.in-Some.ensures.value) (c.get_mut.follows.holds (c.in-Some.entry.now.0, c.args.until)).0
