use Rattle.mesh_paths.proofs.Common.{IsArcMet}
use Rattle.mesh_paths.proofs.Rows.{yes, no, seen, missed, of_each, arc_of_closed, closed_of_arcs}
use Rattle.mesh_paths.proofs.certificate.is_closed.Goals as goal

pub returns-then-not-is_arc_met : goal.returns-then-not-is_arc_met
returns-then-not-is_arc_met c = no (λ closed. missed (IsArcMet c.args.rows.now) c.args.arcs.now c.loop-arc.arc-index c.arc-item.result c.is_arc_met.result c.arc-item.is c.is_arc_met.ensures c.if-not-is_arc_met.true c.loop-arc-test.true
    (arc_of_closed c.args.arcs.now c.args.from c.args.rows.now closed))

pub loop-arc-preserved : goal.loop-arc-preserved
loop-arc-preserved c = seen (IsArcMet c.args.rows.now) c.args.arcs.now c.loop-arc.arc-index c.arc-item.result c.is_arc_met.result c.arc-item.is c.is_arc_met.ensures c.if-not-is_arc_met.false c.loop-arc-test.true c.loop-arc.invariant

pub returns : goal.returns
returns c = yes (closed_of_arcs c.args.arcs.now c.args.from c.args.rows.now (c.is_met.ensures.0 c.if-not-is_met.false)
    (of_each (IsArcMet c.args.rows.now) c.args.arcs.now c.loop-arc.arc-index c.loop-arc-test.false c.loop-arc.invariant))
