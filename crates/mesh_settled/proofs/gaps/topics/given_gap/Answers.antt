use Rattle.mesh_settled.proofs.Common.{states, seen, IsByRows}
use Rattle.mesh_settled.proofs.GapsLemmas.Leasts.{least_step, least_end}
use Rattle.mesh_settled.proofs.gaps.topics.given_gap.Goals as goal

pub loop-w-preserved : goal.loop-w-preserved
loop-w-preserved g c =
    rw c.lesser-best.ensures (least_step (seen g.R.RouterView.state c.args.site.now)
    (IsByRows (states g.R.RouterView.state c.args.site.now) c.args.topic) c.loop-w.w c.loop-w.best c.gap_by.result c.loop-w.invariant c.gap_by.ensures)

pub returns : goal.returns
returns g c =
    least_end (seen g.R.RouterView.state c.args.site.now)
    (IsByRows (states g.R.RouterView.state c.args.site.now) c.args.topic) c.loop-w.w _ c.loop-w.best c.loop-w-test.false c.loop-w.auto.w-end c.loop-w.invariant
