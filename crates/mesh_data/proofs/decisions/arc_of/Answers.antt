use Rattle.mesh_data.proofs.Common.{◌≡◌, true, AllWithin-more, at_read, RadioArc, item_in, of_each, IsArcOf}
use Rattle.mesh_data.proofs.decisions.arc_of.Goals as goal

pub returns-then-is_arc_of-clause-some : goal.returns-then-is_arc_of-clause-some
returns-then-is_arc_of-clause-some c = (item_in c.args.arcs.now c.loop-arc.arc-index c.arc-item.result c.arc-item.is c.loop-arc-test.true, c.is_arc_of.ensures.0 c.if-is_arc_of.true)

pub loop-arc-preserved : goal.loop-arc-preserved
loop-arc-preserved c =
    let P : RadioArc → Type 0 = λ arc. IsArcOf c.args.scenario.now c.args.x c.args.row.now arc → ⊥ in
    AllWithin-more P c.args.arcs.now 0 c.loop-arc.arc-index c.loop-arc.invariant
    (at_read c.args.arcs.now P c.loop-arc.arc-index c.arc-item.result c.loop-arc-test.true c.arc-item.is
    (λ h. let t : c.is_arc_of.result ≡ true = c.is_arc_of.ensures.1 h in (cc)))

pub returns-clause-none : goal.returns-clause-none
returns-clause-none c = of_each (λ (arc : RadioArc). IsArcOf c.args.scenario.now c.args.x c.args.row.now arc → ⊥) c.args.arcs.now c.loop-arc.arc-index c.loop-arc-test.false c.loop-arc.invariant
