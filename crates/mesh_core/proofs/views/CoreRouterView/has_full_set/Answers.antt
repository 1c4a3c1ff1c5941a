use Rattle.mesh_core.proofs.views.CoreRouterView.has_full_set.Goals as goal

pub returns : goal.returns
returns g c = rw (← c.self.view_is, ← c.flood.ensures) c.is_full.ensures
