-- Relays that are chosen from a graph.
use Rattle.mesh_bases.proofs.Common.{arith, common_steps, List, Result, IfOk, Addr4, NeighbourGraph, AreRelaysOf, Covers, Needed, IsAscending}

pub chosen : {E : Type 0} (graph : NeighbourGraph) (r : Result (List Addr4) E) → IfOk r (Covers graph) → IfOk r (Needed graph) → IfOk r IsAscending → IfOk r (AreRelaysOf graph)
chosen graph r covers needed order = grind (arith, common_steps)
