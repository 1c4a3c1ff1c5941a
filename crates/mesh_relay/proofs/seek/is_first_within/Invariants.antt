use Rattle.mesh_relay.proofs.Common.{◌≡◌, drop, is_first_within}
use Rattle.mesh_relay.proofs.seek.is_first_within.Given as goal

abbrev pub invariant-loop-direct : goal.invariant-loop-direct
invariant-loop-direct l = is_first_within l.addr l.most (drop l.direct-index l.directs) ≡ is_first_within l.addr l.most l.directs
