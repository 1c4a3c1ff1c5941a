use Rattle.mesh_report.proofs.Common.{common_steps, arith, grows_none, grows_on}
use Rattle.mesh_report.proofs.Digits.{digits_none, digits_more}
use Rattle.mesh_report.proofs.pieces.put_hex.Goals as goal

pub loop-at-init : goal.loop-at-init
loop-at-init c = grind (arith, common_steps, grows_none, digits_none, c.requires)

pub loop-at-preserved : goal.loop-at-preserved
loop-at-preserved c = grind (arith, common_steps, grows_on, digits_more, c.loop-at.invariant, c.in_ok-put_some_hex.ensures.ok, c.in_ok-put_some_hex.ensures.len, c.in_ok-put_some_hex.ensures.kept)
