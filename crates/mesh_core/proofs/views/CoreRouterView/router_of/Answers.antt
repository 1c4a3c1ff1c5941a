use Rattle.mesh_core.proofs.views.CoreRouterView.router_of.Goals as goal

pub returns : goal.returns
returns g c = rw (← c.topology.ensures, ← c.routers.ensures) c.get.ensures
