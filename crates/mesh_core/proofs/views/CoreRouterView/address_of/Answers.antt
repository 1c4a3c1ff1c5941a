use Rattle.mesh_core.proofs.views.CoreRouterView.address_of.Goals as goal

pub returns : goal.returns
returns g c = rw (← c.topology.ensures, ← c.addresses.ensures) c.get.ensures
