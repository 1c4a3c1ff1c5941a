use Rattle.mesh_core.proofs.views.CoreRouterView.has_noted.Goals as goal

pub returns : goal.returns
returns g c = rw (← c.self.view_is, ← c.flood.ensures) c.has_noted.ensures
