use Rattle.mesh_paths.proofs.Common.{IsOffered}
use Rattle.mesh_paths.proofs.Rows.{yes, no, seen, missed, of_each}
use Rattle.mesh_paths.proofs.certificate.is_grounded.Goals as goal

pub returns-then-not-is_offered : goal.returns-then-not-is_offered
returns-then-not-is_offered c = no (λ grounded. missed (IsOffered c.args.arcs.now c.args.from c.args.rows.now) c.args.rows.now c.loop-row.row-index c.row-item.result c.is_offered.result c.row-item.is c.is_offered.ensures c.if-not-is_offered.true c.loop-row-test.true grounded)

pub loop-row-preserved : goal.loop-row-preserved
loop-row-preserved c = seen (IsOffered c.args.arcs.now c.args.from c.args.rows.now) c.args.rows.now c.loop-row.row-index c.row-item.result c.is_offered.result c.row-item.is c.is_offered.ensures c.if-not-is_offered.false c.loop-row-test.true c.loop-row.invariant

pub returns : goal.returns
returns c = yes (of_each (IsOffered c.args.arcs.now c.args.from c.args.rows.now) c.args.rows.now c.loop-row.row-index c.loop-row-test.false c.loop-row.invariant)
