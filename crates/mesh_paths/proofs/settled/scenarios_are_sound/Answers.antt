use Rattle.mesh_paths.proofs.Scenarios.{sound_scenario}
use Rattle.mesh_paths.proofs.settled.scenarios_are_sound.Goals as goal

pub returns : goal.returns
returns c = sound_scenario
