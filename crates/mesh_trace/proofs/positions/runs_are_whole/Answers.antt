use Rattle.mesh_trace.proofs.PositionsLemmas.WholeRuns.{runs_are_whole}
use Rattle.mesh_trace.proofs.positions.runs_are_whole.Goals as goal

pub returns : goal.returns
returns c = runs_are_whole
