use Rattle.mesh_trace.proofs.Common.{◌+◌, lines_from}
use Rattle.mesh_trace.proofs.ReadingLemmas.Rests.{rest_is, from_here}
use Rattle.mesh_trace.proofs.reading.Reader.rest.Goals as goal

pub returns : goal.returns
returns c =
    let trace = c.args.trace.now in
    let line = c.first_line.result.0.now in
    let at = c.args.self.now.at in
    let len = c.first_line.result.1 in
    rest_is trace c.args.self.now c.as_slice.result.now line (lines_from trace (at + len)) c.behind.result c.as_slice.ensures (from_here trace line at len c.first_line.ensures.line) c.behind.ensures.some c.behind.ensures.none
