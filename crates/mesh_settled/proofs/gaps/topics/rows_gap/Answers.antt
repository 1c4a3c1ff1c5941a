use Rattle.mesh_settled.proofs.Common.{◌≡◌, slice_get-get_or, seen, IsToRow, key_at}
use Rattle.mesh_settled.proofs.GapsLemmas.Leasts.{at_place, least_step, least_end}
use Rattle.mesh_settled.proofs.gaps.topics.rows_gap.Goals as goal

pub loop-n-preserved : goal.loop-n-preserved
loop-n-preserved g c =
    let l = seen g.R.RouterView.state c.args.site.now in
    rw c.lesser-best.ensures (least_step l (IsToRow c.args.topic c.args.origin.now.addr c.args.rows.now) c.loop-n.n c.loop-n.best c.gap_at.result c.loop-n.invariant
    (at_place l c.args.rows.now (λ row k. k ≡ key_at c.args.topic c.args.origin.now.addr row.dest) c.loop-n.n _ c.gap_at.result (slice_get-get_or c.args.rows.now c.loop-n.n _ c.loop-n-test.true) c.gap_at.ensures))

pub returns : goal.returns
returns g c =
    least_end (seen g.R.RouterView.state c.args.site.now)
    (IsToRow c.args.topic c.args.origin.now.addr c.args.rows.now) c.loop-n.n _ c.loop-n.best c.loop-n-test.false c.loop-n.auto.n-end c.loop-n.invariant
