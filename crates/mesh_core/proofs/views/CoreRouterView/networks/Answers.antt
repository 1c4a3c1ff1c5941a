use Rattle.mesh_core.proofs.views.CoreRouterView.networks.Goals as goal

pub returns : goal.returns
returns g c = rw (← c.topology.ensures, ← c.networks.ensures) c.len.ensures.value
