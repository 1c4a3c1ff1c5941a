use Rattle.mesh_run.proofs.TurnsLemmas.Runs.{are_runs, keep_sound}
use Rattle.mesh_run.proofs.turns.laws.turns_are_runs.Goals as goal

pub returns-clause-runs : goal.returns-clause-runs
returns-clause-runs c = are_runs

pub returns-clause-sound : goal.returns-clause-sound
returns-clause-sound c = keep_sound
