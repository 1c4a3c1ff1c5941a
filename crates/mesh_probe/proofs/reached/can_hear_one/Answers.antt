use Rattle.mesh_probe.proofs.Common.{◌≡◌, ◌<◌, ◌≤◌, get_or, List, length, subst, RadioArc, yes, no, item_in, of_each, BringsTo}
use Rattle.mesh_probe.proofs.Hearers.{brought, brings}
use Rattle.mesh_probe.proofs.reached.can_hear_one.Goals as goal

pub returns-then-is_heard_by : goal.returns-then-is_heard_by
returns-then-is_heard_by c =
    let s = c.args.scenario.now in
    let arc : RadioArc = c.arc-item.result in
    let is : arc ≡ get_or s.arcs c.loop-arc.arc-index arc = subst (λ (l : List RadioArc). arc ≡ get_or l c.loop-arc.arc-index arc) c.as_slice-arc-items.ensures c.arc-item.is in
    let less : c.loop-arc.arc-index < length s.arcs = subst (λ (l : List RadioArc). c.loop-arc.arc-index < length l) c.as_slice-arc-items.ensures c.loop-arc-test.true in
    yes (brought s c.args.sends.now c.args.router arc (item_in s.arcs c.loop-arc.arc-index arc is less) (c.is_heard_by.ensures.0 c.if-is_heard_by.true))

pub returns : goal.returns
returns c =
    let s = c.args.scenario.now in
    let past : length s.arcs ≤ c.loop-arc.arc-index = subst (λ (l : List RadioArc). length l ≤ c.loop-arc.arc-index) c.as_slice-arc-items.ensures c.loop-arc-test.false in
    no (λ h. (let (arc, stands, b) = brings s c.args.sends.now c.args.router h in
    of_each (λ (a : RadioArc). BringsTo c.args.sends.now c.args.router a → ⊥) s.arcs c.loop-arc.arc-index past c.loop-arc.invariant arc stands b))
