use Rattle.mesh_relay.proofs.Common.{IsBest}
use Rattle.mesh_relay.proofs.greedy.best_of.Given as goal

abbrev pub invariant-loop-place : goal.invariant-loop-place
invariant-loop-place l = IsBest l.gains l.taken l.place l.best
