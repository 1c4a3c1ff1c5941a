use Rattle.mesh_settled.proofs.Common.{◌≡◌, slice_get-get_or, IsKeyIn, key_by, seen}
use Rattle.mesh_settled.proofs.GapsLemmas.Leasts.{at_place, least_step, least_end}
use Rattle.mesh_settled.proofs.gaps.two_hops.given_in.Goals as goal

pub loop-n-preserved : goal.loop-n-preserved
loop-n-preserved g c =
    rw c.lesser-best.ensures (least_step (seen g.R.RouterView.state c.args.site.now)
    (IsKeyIn c.args.end.now.i c.args.end.now.link c.args.addrs.now) c.loop-n.n c.loop-n.best c.gap_at.result c.loop-n.invariant (at_place (seen g.R.RouterView.state c.args.site.now) c.args.addrs.now (λ a k. k ≡ key_by c.args.end.now.i c.args.end.now.link a) c.loop-n.n _ c.gap_at.result (slice_get-get_or c.args.addrs.now c.loop-n.n _ c.loop-n-test.true) c.gap_at.ensures))

pub returns : goal.returns
returns g c =
    least_end (seen g.R.RouterView.state c.args.site.now)
    (IsKeyIn c.args.end.now.i c.args.end.now.link c.args.addrs.now) c.loop-n.n _ c.loop-n.best c.loop-n-test.false c.loop-n.auto.n-end c.loop-n.invariant
