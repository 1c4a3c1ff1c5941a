use Rattle.mesh_wire.proofs.Common.{length, arith, ap, length-append, length-take, column_text, columns_text}
use Rattle.mesh_wire.proofs.Texts.{front_of, back_of}
use Rattle.mesh_wire.proofs.runs.first_column.Goals as goal

pub slice_bounds-result-end : goal.slice_bounds-result-end
slice_bounds-result-end c = omega (arith, length-take c.text_len-len.result c.args.values.now, c.text_len-len.ensures, ap length c.requires.values, length-append (column_text c.args.column c.args.lines.now) (columns_text c.args.others.now c.args.lines.now))

pub returns-clause-first : goal.returns-clause-first
returns-clause-first c = rw c.text_len-len.ensures (front_of c.args.values.now (column_text c.args.column c.args.lines.now) (columns_text c.args.others.now c.args.lines.now) c.requires.values)

pub returns-clause-others : goal.returns-clause-others
returns-clause-others c = rw c.text_len-len.ensures (back_of c.args.values.now (column_text c.args.column c.args.lines.now) (columns_text c.args.others.now c.args.lines.now) c.requires.values)
