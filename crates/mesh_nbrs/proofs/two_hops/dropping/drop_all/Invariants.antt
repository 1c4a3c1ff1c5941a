use Rattle.mesh_nbrs.proofs.Dropping.{Dropping}
use Rattle.mesh_nbrs.proofs.two_hops.dropping.drop_all.Given as goal

abbrev pub invariant-loop-place : goal.invariant-loop-place
invariant-loop-place g l = Dropping l.link (g.T.Table.content l.initial.table) (g.T.Table.content l.table) l.place

abbrev pub decreases-loop-place : goal.decreases-loop-place
decreases-loop-place g l = l.place
