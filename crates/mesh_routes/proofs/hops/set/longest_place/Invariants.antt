use Rattle.mesh_routes.proofs.HopsLemmas.Searching.{HasNoLonger}
use Rattle.mesh_routes.proofs.hops.set.longest_place.Given as goal

abbrev pub invariant-loop-less : goal.invariant-loop-less
invariant-loop-less l = HasNoLonger l.rows l.dest l.less
