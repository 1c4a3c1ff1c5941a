use Rattle.mesh_data.proofs.Common.{Contains, slice_get}
use Rattle.mesh_atoms.specs.declared.settings.Interface.{Interface}
use Rattle.mesh_data.proofs.Deciding.{at_place}
use Rattle.mesh_data.proofs.decisions.is_on.Goals as goal

pub returns-in-Some : goal.returns-in-Some
returns-in-Some c = at_place (λ (i : Interface). Contains i.addrs c.args.addr) c.get.result (slice_get c.args.settings.now.interfaces c.args.j) c.in-Some.interface c.has_address.result c.get.ensures c.in-Some.is c.has_address.ensures
