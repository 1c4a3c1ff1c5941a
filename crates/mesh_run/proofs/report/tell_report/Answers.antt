use Rattle.mesh_run.proofs.Common.{ℕ, List, one_put, one_cut, IsReport}
use Rattle.mesh_run.proofs.report.tell_report.Goals as goal

pub returns-in-Ok-write_all-clause-leaves : goal.returns-in-Ok-write_all-clause-leaves
returns-in-Ok-write_all-clause-leaves g c =
    one_put (λ (u : Unit {0}) (text : List ℕ). IsReport c.args.end c.args.ended.now (g.R.RouterView.state c.args.router.now) text) _ _ tt c.in-Ok.text c.in-Ok.ensures (rw c.as_slice.ensures at c.in-Ok-write_all.ensures.whole)

pub returns-in-Ok-clause-leaves : goal.returns-in-Ok-clause-leaves
returns-in-Ok-clause-leaves g c =
    let w = c.in-Err-write_all.ensures in
    one_cut (λ (u : Unit {0}) (text : List ℕ). IsReport c.args.end c.args.ended.now (g.R.RouterView.state c.args.router.now) text) _ _ _ _ tt c.in-Ok.text c.in-Ok.ensures w.failed (rw c.as_slice.ensures at w.part)
