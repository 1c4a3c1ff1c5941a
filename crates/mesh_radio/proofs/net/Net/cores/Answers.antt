use Rattle.mesh_radio.proofs.Common.{refl}
use Rattle.mesh_radio.proofs.net.Net.cores.Goals as goal

pub returns : goal.returns
returns g c = rw (← c.self.view_is, c.as_slice.ensures.value) refl
