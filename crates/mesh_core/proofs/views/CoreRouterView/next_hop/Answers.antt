use Rattle.mesh_core.proofs.views.CoreRouterView.next_hop.Goals as goal

pub returns-clause-some : goal.returns-clause-some
returns-clause-some g c = rw (← c.self.view_is) c.next_hop.ensures.some

pub returns-clause-none : goal.returns-clause-none
returns-clause-none g c = rw (← c.self.view_is) c.next_hop.ensures.none
