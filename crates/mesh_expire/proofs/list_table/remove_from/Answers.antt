use Rattle.mesh_expire.proofs.Common.{refl}
use Rattle.mesh_expire.proofs.Places.{removed}
use Rattle.mesh_expire.proofs.list_table.remove_from.Goals as goal

pub returns-in-Some-clause-distinct : goal.returns-in-Some-clause-distinct
returns-in-Some-clause-distinct g c = rw c.remove.ensures.items (removed g.met.K.Eq.laws c.args.key.now c.args.entries.now.items c.in-Some.i c.in-Some.ensures.some c.requires).0

pub returns-in-Some-clause-removed : goal.returns-in-Some-clause-removed
returns-in-Some-clause-removed g c = rw c.remove.ensures.items (removed g.met.K.Eq.laws c.args.key.now c.args.entries.now.items c.in-Some.i c.in-Some.ensures.some c.requires).1

pub returns-in-Some-clause-found : goal.returns-in-Some-clause-found
returns-in-Some-clause-found g c = (λ _. (removed g.met.K.Eq.laws c.args.key.now c.args.entries.now.items c.in-Some.i c.in-Some.ensures.some c.requires).2, λ _. refl)
