use Rattle.mesh_replay.proofs.CommandLemmas.Worked.{many_lines, none_ruled, reports, empty_traces, empty_scenarios}
use Rattle.mesh_replay.proofs.command.laws.worked_inputs_are_split.Goals as goal

pub returns : goal.returns
returns c = record { lines = many_lines; none = none_ruled; reports = reports; traces = empty_traces; scenarios = empty_scenarios }
