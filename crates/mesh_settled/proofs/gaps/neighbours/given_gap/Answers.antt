use Rattle.mesh_settled.proofs.Common.{IsOriginatorOf, states, seen}
use Rattle.mesh_settled.proofs.GapsLemmas.Leasts.{least_step, least_end}
use Rattle.mesh_settled.proofs.gaps.neighbours.given_gap.Goals as goal

pub loop-y-preserved : goal.loop-y-preserved
loop-y-preserved g c =
    rw c.lesser-best.ensures (least_step (seen g.R.RouterView.state c.args.site.now)
    (IsOriginatorOf (states g.R.RouterView.state c.args.site.now)) c.loop-y.y c.loop-y.best c.gap_of.result c.loop-y.invariant c.gap_of.ensures)

pub returns : goal.returns
returns g c =
    least_end (seen g.R.RouterView.state c.args.site.now)
    (IsOriginatorOf (states g.R.RouterView.state c.args.site.now)) c.loop-y.y _ c.loop-y.best c.loop-y-test.false c.loop-y.auto.y-end c.loop-y.invariant
