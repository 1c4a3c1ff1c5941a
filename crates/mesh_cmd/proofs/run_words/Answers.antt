use Rattle.std.proofs.Common.{refl}
use Rattle.mesh_cmd.specs.Runs.{Calls}
use Rattle.mesh_cmd.proofs.run_words.Goals as goal

-- the call is that of the top call's own clause
pub returns-in-Ok : goal.returns-in-Ok
returns-in-Ok g c = Calls _ refl refl refl c.mesh_top.ensures.answers
