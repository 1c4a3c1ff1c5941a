use Rattle.mesh_wire.proofs.Common.{sym}
use Rattle.mesh_wire.proofs.Texts.{column_wide, column_narrow}
use Rattle.mesh_wire.proofs.runs.text_len.Goals as goal

pub returns-then-is_wide : goal.returns-then-is_wide
returns-then-is_wide c = sym (column_wide c.args.column c.args.lines.now (rw c.is_wide.ensures at c.if-is_wide.true))

pub returns-else-is_wide : goal.returns-else-is_wide
returns-else-is_wide c = sym (column_narrow c.args.column c.args.lines.now (rw c.is_wide.ensures at c.if-is_wide.false))
