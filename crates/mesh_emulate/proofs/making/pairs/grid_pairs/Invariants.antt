use Rattle.mesh_emulate.proofs.Common.{◌≡◌, flat_map, range_with_len, grid_pairs_of}
use Rattle.mesh_emulate.proofs.making.pairs.grid_pairs.Given as goal

abbrev pub invariant-loop-i : goal.invariant-loop-i
invariant-loop-i l = l.pairs ≡ flat_map (grid_pairs_of l.row l.routers) (range_with_len 0 l.i)
