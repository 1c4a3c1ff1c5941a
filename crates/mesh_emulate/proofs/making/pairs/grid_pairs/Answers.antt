use Rattle.mesh_emulate.proofs.Common.{sym, grid_pairs_of}
use Rattle.mesh_emulate.proofs.MakingLemmas.Growing.{flat_more}
use Rattle.mesh_emulate.proofs.making.pairs.grid_pairs.Goals as goal

pub loop-i-preserved : goal.loop-i-preserved
loop-i-preserved c = rw (c.in_ok-put_grid.ensures, c.loop-i.invariant) (sym (flat_more (grid_pairs_of c.args.row c.args.routers) c.loop-i.i))
