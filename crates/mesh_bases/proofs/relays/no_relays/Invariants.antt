use Rattle.mesh_bases.proofs.Common.{◌≡◌, [], replicate}
use Rattle.mesh_bases.proofs.relays.no_relays.Given as goal

abbrev pub invariant-loop : goal.invariant-loop
invariant-loop l = l.flooding ≡ replicate l.counter []
