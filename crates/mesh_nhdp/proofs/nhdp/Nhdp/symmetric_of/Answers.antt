use Rattle.mesh_nhdp.proofs.Common.{none-some, Unlinked}
use Rattle.mesh_nhdp.proofs.nhdp.Nhdp.symmetric_of.Goals as goal

pub returns-in-None : goal.returns-in-None
returns-in-None g c = rw (← c.self.view_is, ← c.in-None.ensures) (Unlinked (λ link w. none-some (link, w.1) w.2))
