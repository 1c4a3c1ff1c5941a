use Rattle.mesh_wire.proofs.Common.{length, arith, ap, laid}
use Rattle.mesh_wire.proofs.Texts.{between, starts_before, ends_within}
use Rattle.mesh_wire.proofs.runs.text_between.Goals as goal

pub slice_bounds-result-count : goal.slice_bounds-result-count
slice_bounds-result-count c = omega (arith, c.text_len.ensures, c.text_len-2.ensures, starts_before (laid c.args.column) c.args.start c.args.end c.args.lines.now c.requires.start)

pub slice_bounds-result-start : goal.slice_bounds-result-start
slice_bounds-result-start c = omega (arith, c.text_len.ensures, c.text_len-2.ensures, starts_before (laid c.args.column) c.args.start c.args.end c.args.lines.now c.requires.start)

pub slice_bounds-result-end : goal.slice_bounds-result-end
slice_bounds-result-end c = omega (arith, c.text_len-2.ensures, ap length c.requires.text, ends_within (laid c.args.column) c.args.end c.args.lines.now)

pub returns : goal.returns
returns c = rw (c.text_len.ensures, c.text_len-2.ensures, c.requires.text) (between (laid c.args.column) c.args.start c.args.end c.args.lines.now c.requires.start)
