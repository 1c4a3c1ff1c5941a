use Rattle.mesh_settled.specs.Gaps.Neighbours.{IsHeldAt}
use Rattle.mesh_settled.proofs.Common.{seen}
use Rattle.mesh_settled.proofs.GapsLemmas.Leasts.{least_step, least_end}
use Rattle.mesh_settled.proofs.gaps.neighbours.held_gap.Goals as goal

pub loop-place-preserved : goal.loop-place-preserved
loop-place-preserved g c =
    rw c.lesser-best.ensures (least_step (seen g.R.RouterView.state c.args.site.now)
    (IsHeldAt (g.R.RouterView.state c.args.site.now.router.now)) c.loop-place.place c.loop-place.best c.held_at.result c.loop-place.invariant c.held_at.ensures)

pub returns : goal.returns
returns g c =
    least_end (seen g.R.RouterView.state c.args.site.now)
    (IsHeldAt (g.R.RouterView.state c.args.site.now.router.now)) c.loop-place.place _ c.loop-place.best (rw c.neighbours-place-end.ensures at c.loop-place-test.false) (rw c.neighbours-place-end.ensures at c.loop-place.auto.place-end) c.loop-place.invariant
