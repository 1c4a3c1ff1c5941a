use Rattle.mesh_replay.proofs.Common.{map, refl, subst, arith, List, ℕ, length-map, map-set, item_at, if_ok_weaker, TakesText}
use Rattle.mesh_replay.proofs.CheckingLemmas.Opened.{next_begins, next_comes, next_not, next_on, next_within, read_at, routers_kept, router_within, settings_same, state_at}
use Rattle.mesh_replay.proofs.checking.step.take_event.Goals as goal

pub returns-then-not-branch-clause-goes : goal.returns-then-not-branch-clause-goes
returns-then-not-branch-clause-goes g c count before y is =
    let there = read_at c.as_slice.ensures (next_within is) c.index-as_slice-next.is in
    let (was, stands) = item_at (map g.R.RouterOfTrace.state c.args.routers.now.items) c.args.next.now.router (router_within c.requires.kept (next_within is)) in
    let takes = subst (λ (l : List ℕ). TakesText c.args.case.now.trace.now c.args.progress.now.reader c.take_due.new.reader l c.in_ok-take_due.field-0) c.opening_line-line.ensures c.in_ok-take_due.ensures in
    next_not c.args.case.now c.args.progress.now c.args.next.now c.requires.kept there stands takes count before is y _ c.if-not-branch.true

pub index_mut-router-requires : goal.index_mut-router-requires
index_mut-router-requires g c =
    let (count, before, reached, is) = c.requires.next in
    let below = router_within c.requires.kept (next_within is) in
    let same = length-map c.args.routers.now.items g.R.RouterOfTrace.state in
    omega (arith, below, same)

pub do_event-requires-clause-comes : goal.do_event-requires-clause-comes
do_event-requires-clause-comes g c one is_one =
    let (count, before, reached, is) = c.requires.next in
    next_comes is (read_at c.as_slice.ensures (next_within is) c.index-as_slice-next.is) one is_one refl

pub do_event-requires-clause-begins : goal.do_event-requires-clause-begins
do_event-requires-clause-begins g c =
    let (count, before, reached, is) = c.requires.next in
    let there = read_at c.as_slice.ensures (next_within is) c.index-as_slice-next.is in
    let here = state_at g.R.RouterOfTrace.state c.args.routers.now.items (router_within c.requires.kept (next_within is)) c.index_mut-router.ensures.value in
    let takes = subst (λ (l : List ℕ). TakesText c.args.case.now.trace.now c.args.progress.now.reader c.take_due.new.reader l c.in_ok-take_due.field-0) c.opening_line-line.ensures c.in_ok-take_due.ensures in
    next_begins c.args.case.now c.args.progress.now c.args.next.now c.requires.kept there here takes count before is refl c.if-not-branch.false reached

pub returns-clause-kept : goal.returns-clause-kept
returns-clause-kept g c =
    let (count, before, reached, is) = c.requires.next in
    let there = read_at c.as_slice.ensures (next_within is) c.index-as_slice-next.is in
    let here = state_at g.R.RouterOfTrace.state c.args.routers.now.items (router_within c.requires.kept (next_within is)) c.index_mut-router.ensures.value in
    if_ok_weaker c.do_event.result (λ fits ends. rw (map-set g.R.RouterOfTrace.state c.args.routers.now.items c.args.next.now.router c.do_event.new.router)
    (routers_kept (map g.R.RouterOfTrace.state c.args.routers.now.items) (g.R.RouterOfTrace.state c.index_mut-router.result.now) c.requires.kept here (settings_same c.args.next.now.router c.requires.kept there here) ends)) c.do_event.ensures

pub returns-clause-goes : goal.returns-clause-goes
returns-clause-goes g c =
    let (_, _, _, next) = c.requires.next in
    let there = read_at c.as_slice.ensures (next_within next) c.index-as_slice-next.is in
    let here = state_at g.R.RouterOfTrace.state c.args.routers.now.items (router_within c.requires.kept (next_within next)) c.index_mut-router.ensures.value in
    let takes = subst (λ (l : List ℕ). TakesText c.args.case.now.trace.now c.args.progress.now.reader c.take_due.new.reader l c.in_ok-take_due.field-0) c.opening_line-line.ensures c.in_ok-take_due.ensures in
    if_ok_weaker c.do_event.result (λ fits ends count before y is. rw (map-set g.R.RouterOfTrace.state c.args.routers.now.items c.args.next.now.router c.do_event.new.router)
    (next_on c.args.case.now c.args.progress.now c.args.next.now c.requires.kept there here takes count before is refl c.if-not-branch.false ends y)) c.do_event.ensures
