use Rattle.mesh_routes.proofs.HopsLemmas.Searching.{no_longer_more, longest_at}
use Rattle.mesh_routes.proofs.hops.set.longest_place.Goals as goal

pub returns-in-Ok-clause-some : goal.returns-in-Ok-clause-some
returns-in-Ok-clause-some c = longest_at c.args.rows.now c.args.dest c.loop-less.less c.of.result c.in-Ok.place c.loop-less-test.true c.of.ensures.prefix c.of.ensures.addr c.in-Ok.ensures.found c.loop-less.invariant

pub loop-less-preserved : goal.loop-less-preserved
loop-less-preserved c = no_longer_more c.args.rows.now c.args.dest c.loop-less.less c.of.result c.loop-less-test.true c.of.ensures.prefix c.of.ensures.addr c.in_default.ensures.none c.loop-less.invariant
