use Rattle.mesh_core.proofs.views.CoreRouterView.addresses.Goals as goal

pub returns : goal.returns
returns g c = rw (← c.topology.ensures, ← c.addresses.ensures) c.len.ensures.value
