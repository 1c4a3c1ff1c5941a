use Rattle.mesh_probe.proofs.Common.{◌≡◌, ◌<◌, ◌≤◌, arith, Some, length, map, refl, ◌∙◌, subst, slice_get, All-contains, slice_get_read, item_in, Transmission, IsOfInterface}
use Rattle.mesh_probe.proofs.Onward.{starts, goes_on, short, ends}
use Rattle.mesh_probe.proofs.flooding.flood.Goals as goal

pub loop-next-init : goal.loop-next-init
loop-next-init g c = starts c.args.scenario.now c.args.now (map g.R.RouterView.state c.args.routers.now) c.args.frames.now.items c.requires.routers c.requires.frames

pub sender_of-sender-requires : goal.sender_of-sender-requires
sender_of-sender-requires g c =
    let less : c.loop-next.next < length c.loop-next.frames.items = subst (λ n. c.loop-next.next < n) (c.len.ensures ∙ c.loop-next.frames.ok.0) c.loop-next-test.true in
    All-contains (IsOfInterface c.args.scenario.now) c.loop-next.frames.items c.index-frame.result.now c.loop-next.invariant.owned
    (item_in c.loop-next.frames.items c.loop-next.next c.index-frame.result.now c.index-frame.ensures less)

pub loop-next-smaller : goal.loop-next-smaller
loop-next-smaller g c =
    let most = short c.args.scenario.now c.args.now (map g.R.RouterView.state c.args.routers.now) c.args.frames.now.items c.loop-next.next (map g.R.RouterView.state c.loop-next.routers) c.loop-next.frames.items c.requires.once c.loop-next.invariant in
    let less : c.loop-next.next < length c.loop-next.frames.items = subst (λ n. c.loop-next.next < n) (c.len.ensures ∙ c.loop-next.frames.ok.0) c.loop-next-test.true in
    omega (arith, most, less)

pub loop-next-preserved : goal.loop-next-preserved
loop-next-preserved g c =
    let s = c.args.scenario.now in
    let state = g.R.RouterView.state in
    let frames = c.loop-next.frames.items in
    let less : c.loop-next.next < length frames = subst (λ n. c.loop-next.next < n) (c.len.ensures ∙ c.loop-next.frames.ok.0) c.loop-next-test.true in
    let frame : Transmission = c.index-frame.result.now in
    let at : slice_get frames c.loop-next.next ≡ Some frame = slice_get_read frames (length frames) c.loop-next.next frame refl less c.index-frame.ensures in
    rw c.in_ok-append.ensures.items
    (goes_on s c.args.now (map state c.args.routers.now) c.args.frames.now.items c.loop-next.next frame c.sender_of-sender.result (map state c.loop-next.routers) (map state c.hear_all.new.routers)
    frames c.in_ok-sent.sent.items at c.sender_of-sender.ensures c.in_ok-sent.ensures.hear c.in_ok-sent.ensures.routers c.in_ok-sent.ensures.sent c.loop-next.invariant)

pub returns : goal.returns
returns g c =
    let past : length c.loop-next.frames.items ≤ c.loop-next.next = subst (λ n. n ≤ c.loop-next.next) (c.len.ensures ∙ c.loop-next.frames.ok.0) c.loop-next-test.false in
    ends c.args.scenario.now c.args.now (map g.R.RouterView.state c.args.routers.now) c.args.frames.now.items c.loop-next.next (map g.R.RouterView.state c.loop-next.routers) c.loop-next.frames.items past c.loop-next.invariant
