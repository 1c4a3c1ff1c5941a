use Rattle.mesh_settled.proofs.Common.{IsKeyNear, seen}
use Rattle.mesh_settled.proofs.GapsLemmas.Leasts.{least_step, least_end}
use Rattle.mesh_settled.proofs.gaps.two_hops.given_by.Goals as goal

pub loop-place-preserved : goal.loop-place-preserved
loop-place-preserved g c =
    rw c.lesser-best.ensures (least_step (seen g.R.RouterView.state c.args.site.now)
    (IsKeyNear c.args.end.now.i c.args.end.now.link (g.R.RouterView.state c.args.end.now.other.now)) c.loop-place.place c.loop-place.best c.given_near.result c.loop-place.invariant c.given_near.ensures)

pub returns : goal.returns
returns g c =
    least_end (seen g.R.RouterView.state c.args.site.now)
    (IsKeyNear c.args.end.now.i c.args.end.now.link (g.R.RouterView.state c.args.end.now.other.now)) c.loop-place.place _ c.loop-place.best (rw c.neighbours-place-end.ensures at c.loop-place-test.false) (rw c.neighbours-place-end.ensures at c.loop-place.auto.place-end) c.loop-place.invariant
