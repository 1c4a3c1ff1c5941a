use Rattle.mesh_settled.proofs.Common.{map, refl, slice_get_read, IsGivenAt, seen}
use Rattle.mesh_settled.proofs.GapsLemmas.Leasts.{at_place, least_step, least_end}
use Rattle.mesh_settled.proofs.GapsLemmas.LinkLemmas.{IsGivenByPlace}
use Rattle.mesh_settled.proofs.gaps.links.given_links.Goals as goal

pub loop-place-preserved : goal.loop-place-preserved
loop-place-preserved g c =
    let l = seen g.R.RouterView.state c.args.site.now in
    rw c.lesser-best.ensures (least_step l (IsGivenByPlace (map g.R.RouterView.state c.args.site.now.routers.now) c.args.site.now.x c.args.pairs.now) c.loop-place.place c.loop-place.best c.given_at.result c.loop-place.invariant
    (at_place l c.args.pairs.now (IsGivenAt (map g.R.RouterView.state c.args.site.now.routers.now) c.args.site.now.x) c.loop-place.place c.index-pairs-place.result c.given_at.result
    (slice_get_read c.args.pairs.now _ c.loop-place.place c.index-pairs-place.result refl c.loop-place-test.true c.index-pairs-place.is) c.given_at.ensures))

pub returns : goal.returns
returns g c =
    least_end (seen g.R.RouterView.state c.args.site.now)
    (IsGivenByPlace (map g.R.RouterView.state c.args.site.now.routers.now) c.args.site.now.x c.args.pairs.now) c.loop-place.place _ c.loop-place.best c.loop-place-test.false c.loop-place.auto.place-end c.loop-place.invariant
