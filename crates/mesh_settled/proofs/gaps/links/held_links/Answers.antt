use Rattle.mesh_settled.proofs.Common.{IsHeldOn, seen}
use Rattle.mesh_settled.proofs.GapsLemmas.Leasts.{least_step, least_end}
use Rattle.mesh_settled.proofs.gaps.links.held_links.Goals as goal

pub loop-i-preserved : goal.loop-i-preserved
loop-i-preserved g c =
    rw c.lesser-best.ensures (least_step (seen g.R.RouterView.state c.args.site.now)
    (IsHeldOn (g.R.RouterView.state c.args.site.now.router.now)) c.loop-i.i c.loop-i.best c.held_on.result c.loop-i.invariant c.held_on.ensures)

pub returns : goal.returns
returns g c =
    least_end (seen g.R.RouterView.state c.args.site.now)
    (IsHeldOn (g.R.RouterView.state c.args.site.now.router.now)) c.loop-i.i _ c.loop-i.best (rw (c.len-i-end.ensures, c.settings.ensures) at c.loop-i-test.false) (rw (c.len-i-end.ensures, c.settings.ensures) at c.loop-i.auto.i-end) c.loop-i.invariant
