use Rattle.mesh_core.proofs.Common.{opening_sound, CoreValue}
use Rattle.mesh_core.proofs.router.Core.new.Goals as goal
use Rattle.mesh_atoms.proofs.Options.{if_ok_weaker}

pub returns-clause-sound : goal.returns-clause-sound
returns-clause-sound g c = if_ok_weaker c.opened.result (λ (core : CoreValue) opening. opening_sound c.args.settings core.state opening) c.opened.ensures.opening
