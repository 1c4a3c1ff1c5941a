use Rattle.mesh_expire.proofs.Common.{common_steps, arith}
use Rattle.mesh_expire.proofs.Places.{replaced, added}
use Rattle.mesh_expire.proofs.list_table.put_in.Goals as goal

pub returns-in-Some-clause-distinct : goal.returns-in-Some-clause-distinct
returns-in-Some-clause-distinct g c = (replaced g.met.K.Eq.laws c.args.key (c.args.value, c.args.until) c.args.entries.now.items c.in-Some.i c.in-Some.ensures.some c.requires).0

pub returns-in-Some-clause-ok : goal.returns-in-Some-clause-ok
returns-in-Some-clause-ok g c = (replaced g.met.K.Eq.laws c.args.key (c.args.value, c.args.until) c.args.entries.now.items c.in-Some.i c.in-Some.ensures.some c.requires).1

pub returns-in-Some-clause-count : goal.returns-in-Some-clause-count
returns-in-Some-clause-count g c = grind (arith, common_steps, replaced, c.in-Some.ensures.some, c.requires)

pub returns-in_ok-push-in-None-clause-distinct : goal.returns-in_ok-push-in-None-clause-distinct
returns-in_ok-push-in-None-clause-distinct g c = rw c.in_ok-push-in-None.ensures.items (added g.met.K.Eq.laws c.args.key (c.args.value, c.args.until) c.args.entries.now.items c.in-None.ensures.none c.requires).0

pub returns-in_ok-push-in-None-clause-ok : goal.returns-in_ok-push-in-None-clause-ok
returns-in_ok-push-in-None-clause-ok g c = rw c.in_ok-push-in-None.ensures.items (added g.met.K.Eq.laws c.args.key (c.args.value, c.args.until) c.args.entries.now.items c.in-None.ensures.none c.requires).1
