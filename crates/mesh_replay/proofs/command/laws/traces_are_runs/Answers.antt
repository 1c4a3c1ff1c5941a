use Rattle.mesh_trace.proofs.PositionsLemmas.RunsOfTraces.{whole_exactly_for_runs}
use Rattle.mesh_replay.proofs.command.laws.traces_are_runs.Goals as goal

pub returns : goal.returns
returns c = whole_exactly_for_runs
