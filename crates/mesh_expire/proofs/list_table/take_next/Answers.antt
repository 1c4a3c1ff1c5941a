use Rattle.mesh_expire.proofs.Common.{common_steps, arith, slice_get_within}
use Rattle.mesh_expire.proofs.Places.{all_fresh, takes}
use Rattle.mesh_expire.proofs.list_table.take_next.Goals as goal

pub returns-in_default-clause-fresh : goal.returns-in_default-clause-fresh
returns-in_default-clause-fresh g c = all_fresh g.met.K.Key.exact c.args.now c.args.entries.now.items c.in_default.ensures.none

pub remove-key-requires : goal.remove-key-requires
remove-key-requires g c = grind (arith, common_steps, slice_get_within, c.in-Some.ensures.some)

pub returns-clause-distinct : goal.returns-clause-distinct
returns-clause-distinct g c = rw c.remove-key.ensures.items (takes g.met.K.Eq.laws c.args.now c.args.entries.now.items c.in-Some.i c.remove-key.result c.remove-key.ensures.value c.in-Some.ensures.some c.requires).0

pub returns-clause-some : goal.returns-clause-some
returns-clause-some g c = rw c.remove-key.ensures.items (takes g.met.K.Eq.laws c.args.now c.args.entries.now.items c.in-Some.i c.remove-key.result c.remove-key.ensures.value c.in-Some.ensures.some c.requires).1
