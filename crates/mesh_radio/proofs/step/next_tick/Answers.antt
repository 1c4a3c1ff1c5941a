use Rattle.mesh_radio.proofs.Common.{refl, Due_first}
use Rattle.mesh_radio.proofs.step.next_tick.Goals as goal

pub returns-then-scene : goal.returns-then-scene
returns-then-scene c = Due_first c.if-scene.true refl
