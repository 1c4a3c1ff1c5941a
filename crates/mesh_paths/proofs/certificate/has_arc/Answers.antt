use Rattle.mesh_paths.proofs.Rows.{yes, item_in}
use Rattle.mesh_paths.proofs.certificate.has_arc.Goals as goal

pub returns-then-is_step : goal.returns-then-is_step
returns-then-is_step c = yes (c.arc-item.result, item_in c.args.arcs.now c.loop-arc.arc-index c.arc-item.result c.arc-item.is c.loop-arc-test.true, c.is_step.ensures.0 c.if-is_step.true)
