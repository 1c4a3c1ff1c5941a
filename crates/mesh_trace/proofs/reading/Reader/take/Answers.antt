use Rattle.mesh_trace.proofs.Common.{refl}
use Rattle.mesh_trace.proofs.ReadingLemmas.Rests.{from_here}
use Rattle.mesh_trace.proofs.reading.Reader.take.Goals as goal

pub returns-clause-took : goal.returns-clause-took
returns-clause-took c =
    let line = c.first_line-len.result.0.now in (
      line,
      record {
        lines = from_here c.args.trace.now line c.args.self.now.at c.first_line-len.result.1 c.first_line-len.ensures.line;
        taken = refl;
        text = refl;
      },
    )
