use Rattle.mesh_trace.proofs.PositionsLemmas.RunsOfTraces.{runs_of_whole_traces, whole_exactly_for_runs}
use Rattle.mesh_trace.proofs.positions.whole_traces_are_runs.Goals as goal

pub returns-clause-run : goal.returns-clause-run
returns-clause-run c = runs_of_whole_traces

pub returns-clause-exactly : goal.returns-clause-exactly
returns-clause-exactly c = whole_exactly_for_runs
