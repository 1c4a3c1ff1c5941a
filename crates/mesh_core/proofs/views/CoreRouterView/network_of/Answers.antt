use Rattle.mesh_core.proofs.views.CoreRouterView.network_of.Goals as goal

pub returns : goal.returns
returns g c = rw (← c.topology.ensures, ← c.networks.ensures) c.get.ensures
