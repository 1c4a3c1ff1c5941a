use Rattle.mesh_nhdp.proofs.Empty.{empty_sound}
use Rattle.mesh_nhdp.proofs.Common.{sym, subst, AreOwnAddresses}
use Rattle.mesh_nhdp.proofs.nhdp.Nhdp.new.Goals as goal

pub returns-clause-sound : goal.returns-clause-sound
returns-clause-sound g c moment = empty_sound c.in_ok-settings.settings moment c.len.result c.in_ok-sets.sets c.len.ensures c.in_ok-sets.ensures

pub invariant_of-result : goal.invariant_of-result
invariant_of-result g c = subst (AreOwnAddresses c.in_ok-settings.settings) (sym c.from_vec.ensures) c.in_ok-own.ensures
