use Rattle.mesh_machine.proofs.Opening.{runs_sound}
use Rattle.mesh_machine.proofs.laws.runs_are_sound.Goals as goal

pub returns : goal.returns
returns c = runs_sound
