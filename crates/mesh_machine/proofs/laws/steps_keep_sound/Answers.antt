use Rattle.mesh_machine.proofs.Soundness.{step_sound}
use Rattle.mesh_machine.proofs.laws.steps_keep_sound.Goals as goal

pub returns : goal.returns
returns c = step_sound
