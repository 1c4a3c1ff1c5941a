use Rattle.mesh_flood.proofs.Choices.{one_of}
use Rattle.mesh_flood.proofs.flood.Flood.has_noted.Goals as goal

pub returns : goal.returns
returns g c =
    let key = c.key-key.ensures in
    rw (← c.self.view_is, ← key) (one_of c.is_any_true.ensures (rw (← c.deref.ensures.value) c.has_one-received.ensures) c.has_key.ensures c.has_key-2.ensures)
