use Rattle.mesh_nhdp.proofs.Common.{◌≡◌, [], replicate}
use Rattle.mesh_nhdp.proofs.sets.no_links.Given as goal

abbrev pub invariant-loop : goal.invariant-loop
invariant-loop g l = l.sets.items ≡ replicate l.counter []
