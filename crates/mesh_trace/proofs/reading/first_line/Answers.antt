use Rattle.mesh_trace.proofs.Common.{arith, add-one}
use Rattle.mesh_trace.proofs.ReadingLemmas.FirstLine.{lines_at, lines_all}
use Rattle.mesh_trace.proofs.reading.first_line.Goals as goal

pub returns-in-Some-clause-line : goal.returns-in-Some-clause-line
returns-in-Some-clause-line c = rw add-one (lines_at c.args.text.now c.in-Some.end c.in-Some.ensures.0.high c.in-Some.ensures.1 (λ j less is. c.in-Some.ensures.0.before j (omega arith) less is))

pub returns-in-None-clause-line : goal.returns-in-None-clause-line
returns-in-None-clause-line c = lines_all c.args.text.now c.requires (λ j less is. c.in-None.ensures j (omega arith) less is)
