use Rattle.mesh_trace.proofs.Common.{Decides-eqb, slice_eq-Decides, take, length}
use Rattle.mesh_trace.proofs.ReadingLemmas.Ends.{line_ends, line_within}
use Rattle.mesh_trace.proofs.reading.is_line_of.Goals as goal

pub returns : goal.returns
returns c =
    let same = slice_eq-Decides Decides-eqb c.args.line.now (take (length c.args.line.now) c.args.text.now) c.eq.result c.eq.ensures in (
      λ yes. line_ends c.args.line.now c.args.text.now c.if-text-len.false c.if-text-len-ne10.false (same.0 yes),
      λ is. same.1 (line_within c.args.line.now c.args.text.now is),
    )
