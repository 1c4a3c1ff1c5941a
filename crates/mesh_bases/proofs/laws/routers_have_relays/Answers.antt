use Rattle.mesh_bases.proofs.Existing.{relays_exist}
use Rattle.mesh_bases.proofs.laws.routers_have_relays.Goals as goal

pub returns : goal.returns
returns c = relays_exist
