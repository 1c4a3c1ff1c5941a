use Rattle.mesh_nhdp.proofs.Common.{sym, subst, AreOwnAddresses}
use Rattle.mesh_nhdp.proofs.nhdp.Nhdp.take_and_tell.Goals as goal

pub take_in-requires-clause-own : goal.take_in-requires-clause-own
take_in-requires-clause-own g c = subst (AreOwnAddresses c.self.inside.settings) (sym c.as_slice.ensures) c.self.invariant

pub returns-clause-ok : goal.returns-clause-ok
returns-clause-ok g c = rw (← c.self.view_is) c.take_in.ensures.ok
