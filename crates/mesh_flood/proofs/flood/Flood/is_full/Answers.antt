use Rattle.mesh_flood.proofs.Choices.{one_of}
use Rattle.mesh_flood.proofs.flood.Flood.is_full.Goals as goal

pub returns : goal.returns
returns g c = rw (← c.self.view_is) (one_of c.is_any_true.ensures (rw (← c.deref.ensures.value) c.has_full-received.ensures) (rw c.is_full.ensures (λ h. h, λ h. h)) (rw c.is_full-2.ensures (λ h. h, λ h. h)))
