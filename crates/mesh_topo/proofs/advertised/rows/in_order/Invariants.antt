use Rattle.mesh_topo.proofs.Common.{◌≡◌, ◌++◌, map, row_of}
use Rattle.mesh_topo.proofs.advertised.rows.in_order.Given as goal

abbrev pub invariant-loop-net : goal.invariant-loop-net
invariant-loop-net l = l.rows ++ map row_of l.net-iterator ≡ map row_of l.offers.entries
