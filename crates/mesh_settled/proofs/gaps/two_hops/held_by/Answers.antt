use Rattle.mesh_settled.proofs.Common.{IsTwoHopAt, seen}
use Rattle.mesh_settled.proofs.GapsLemmas.Leasts.{least_step, least_end}
use Rattle.mesh_settled.proofs.gaps.two_hops.held_by.Goals as goal

pub loop-place-preserved : goal.loop-place-preserved
loop-place-preserved g c =
    rw c.lesser-best.ensures (least_step (seen g.R.RouterView.state c.args.site.now)
    (IsTwoHopAt (g.R.RouterView.state c.args.site.now.router.now) c.args.end.now.i c.args.end.now.link) c.loop-place.place c.loop-place.best c.held_at.result c.loop-place.invariant c.held_at.ensures)

pub returns : goal.returns
returns g c =
    least_end (seen g.R.RouterView.state c.args.site.now)
    (IsTwoHopAt (g.R.RouterView.state c.args.site.now.router.now) c.args.end.now.i c.args.end.now.link) c.loop-place.place _ c.loop-place.best (rw c.two_hops-place-end.ensures at c.loop-place-test.false) (rw c.two_hops-place-end.ensures at c.loop-place.auto.place-end) c.loop-place.invariant
