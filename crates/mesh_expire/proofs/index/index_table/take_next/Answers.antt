use Rattle.mesh_expire.proofs.IndexLemmas.Moments.{none_expired}
use Rattle.mesh_expire.proofs.index.index_table.take_next.Goals as goal

pub returns-in_default-clause-fresh : goal.returns-in_default-clause-fresh
returns-in_default-clause-fresh g c = none_expired g.K.PartialEq.eq c.args.moments.now c.args.map.now.entries c.args.now c.requires.tells c.in_default.ensures.rest
