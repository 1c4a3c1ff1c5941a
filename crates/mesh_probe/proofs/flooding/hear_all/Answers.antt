use Rattle.mesh_probe.proofs.Common.{◌≡◌, ◌<◌, ◌≤◌, get_or, List, length, map, subst, RadioArc, item_in, HearsFrame}
use Rattle.mesh_probe.proofs.Turns.{passes, turns, all_turned, router_there}
use Rattle.mesh_probe.proofs.flooding.hear_all.Goals as goal
use Rattle.mesh_probe.proofs.flooding.hear_all.Goals.{then-is_arc_from+in_ok-hear_one, else-is_arc_from}

pub hear_one-requires-clause-router : goal.hear_one-requires-clause-router
hear_one-requires-clause-router g c =
    let s = c.args.scenario.now in
    let arc : RadioArc = c.arc-item.result in
    let is : arc ≡ get_or s.arcs c.loop-arc.arc-index arc = subst (λ (l : List RadioArc). arc ≡ get_or l c.loop-arc.arc-index arc) c.as_slice-arc-items.ensures c.arc-item.is in
    let less : c.loop-arc.arc-index < length s.arcs = subst (λ (l : List RadioArc). c.loop-arc.arc-index < length l) c.as_slice-arc-items.ensures c.loop-arc-test.true in
    router_there s c.args.now (map g.R.RouterView.state c.loop-arc.routers) arc c.loop-arc.invariant.can (item_in s.arcs c.loop-arc.arc-index arc is less)

pub loop-arc-preserved : goal.loop-arc-preserved
loop-arc-preserved g c =
    let s = c.args.scenario.now in
    let state = g.R.RouterView.state in
    let octets = c.args.frame.now.frame.bytes in
    let x = c.args.frame.now.router in
    let i = c.args.frame.now.frame.iface in
    let old = map state c.args.routers.now in
    let at = c.loop-arc.arc-index in
    let arc : RadioArc = c.arc-item.result in
    let is : arc ≡ get_or s.arcs at arc = subst (λ (l : List RadioArc). arc ≡ get_or l at arc) c.as_slice-arc-items.ensures c.arc-item.is in
    let less : at < length s.arcs = subst (λ (l : List RadioArc). at < length l) c.as_slice-arc-items.ensures c.loop-arc-test.true in
    elim c.if-is_arc_from.branch [
      | then-is_arc_from+in_ok-hear_one w ↦
          let here = map state c.loop-arc.routers in
          let there = map state w.hear_one.new.routers in
          let h : HearsFrame c.args.now c.args.sender octets arc.to arc.to_iface here there c.loop-arc.sent.items w.hear_one.new.sent.items =
          subst (λ bytes. HearsFrame c.args.now c.args.sender bytes arc.to arc.to_iface here there c.loop-arc.sent.items w.hear_one.new.sent.items) c.in_ok-heard.ensures w.in_ok-hear_one.ensures in
          rw (w.routers-is, w.sent-is)
          (turns s c.args.now c.args.sender octets x i old at arc c.is_arc_from.result here there c.loop-arc.sent.items w.hear_one.new.sent.items is less c.is_arc_from.ensures w.if-is_arc_from.true h c.loop-arc.invariant)
      | else-is_arc_from w ↦
          rw (w.routers-is, w.sent-is)
          (passes s c.args.now c.args.sender octets x i old at arc c.is_arc_from.result (map state c.loop-arc.routers) c.loop-arc.sent.items is less c.is_arc_from.ensures w.if-is_arc_from.false c.loop-arc.invariant)
    ]

pub returns-clause-hear : goal.returns-clause-hear
returns-clause-hear g c =
    let s = c.args.scenario.now in
    let past : length s.arcs ≤ c.loop-arc.arc-index = subst (λ (l : List RadioArc). length l ≤ c.loop-arc.arc-index) c.as_slice-arc-items.ensures c.loop-arc-test.false in
    all_turned s c.args.now c.args.sender c.args.frame.now.frame.bytes c.args.frame.now.router c.args.frame.now.frame.iface (map g.R.RouterView.state c.args.routers.now)
    c.loop-arc.arc-index (map g.R.RouterView.state c.loop-arc.routers) c.loop-arc.sent.items past c.loop-arc.invariant
