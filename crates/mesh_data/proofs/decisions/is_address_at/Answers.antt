use Rattle.mesh_data.proofs.Common.{slice_get, RouterSettings, HasAddressOn}
use Rattle.mesh_data.proofs.Deciding.{at_place}
use Rattle.mesh_data.proofs.decisions.is_address_at.Goals as goal

pub returns-in-Some : goal.returns-in-Some
returns-in-Some c = at_place (λ (q : RouterSettings). HasAddressOn q c.args.j c.args.addr) c.get.result (slice_get c.args.scenario.now.routers c.args.y) c.in-Some.settings c.is_on.result c.get.ensures c.in-Some.is c.is_on.ensures
