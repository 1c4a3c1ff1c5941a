use Rattle.mesh_replay.proofs.Common.{◌≡◌, refl, length, List, Some, map, slice_get, length-map, slice_get_read, State, very_first, is_earlier, is_no_earlier, first_of_all, mapped_at}
use Rattle.mesh_replay.proofs.checking.opening.first_due.Goals as goal
use Rattle.mesh_replay.proofs.checking.opening.first_due.Goals.{then-moment-first, else-moment-first}

pub loop-router-init : goal.loop-router-init
loop-router-init g c =
    let state = g.R.RouterOfTrace.state in
    let routers = c.args.routers.now.items in
    let one = c.index.result.now in
    rw c.due_next.ensures (very_first (map state routers) (state one) (mapped_at state routers 0 one (slice_get_read routers (length routers) 0 one refl c.requires c.index.ensures)))

pub loop-router-preserved : goal.loop-router-preserved
loop-router-preserved g c =
    let state = g.R.RouterOfTrace.state in
    let routers = c.args.routers.now.items in
    let states : List State = map state routers in
    let at : slice_get states c.loop-router.router ≡ Some (state c.one-item.result) =
    mapped_at state routers c.loop-router.router c.one-item.result
    (slice_get_read routers (length routers) c.loop-router.router c.one-item.result refl (rw (← c.deref-one-items.ensures.value) c.loop-router-test.true) (rw (← c.deref-one-items.ensures.value) c.one-item.is)) in
    elim c.if-moment-first.branch [
      | then-moment-first w ↦ rw (w.first-is, c.due_next-moment.ensures) (is_earlier states c.loop-router.router _ _ (state c.one-item.result) at c.loop-router.invariant (rw (← c.due_next-moment.ensures) w.if-moment-first.true))
      | else-moment-first w ↦ rw w.first-is (is_no_earlier states c.loop-router.router _ _ (state c.one-item.result) at c.loop-router.invariant (rw (← c.due_next-moment.ensures) w.if-moment-first.false))
    ]

pub returns : goal.returns
returns g c =
    first_of_all (map g.R.RouterOfTrace.state c.args.routers.now.items) c.loop-router.router _ _ (rw (length-map c.args.routers.now.items g.R.RouterOfTrace.state, ← c.deref-one-items.ensures.value) c.loop-router-test.false) c.loop-router.invariant
