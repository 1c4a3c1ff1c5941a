use Rattle.mesh_tool.proofs.Common.{◌≤◌, take, Appends}
use Rattle.mesh_tool.proofs.JobsLemmas.Pieces.{text}
use Rattle.mesh_tool.proofs.jobs.say.tell_line.Given as goal

abbrev pub invariant-loop-piece : goal.invariant-loop-piece
invariant-loop-piece g l = record {
  so_far : Appends (g.E.Sink.content l.fn.err) (g.E.Sink.content l.err) (text (take l.piece-index l.pieces));
  later : g.E.Sink.faults l.fn.err ≤ g.E.Sink.faults l.err;
}
