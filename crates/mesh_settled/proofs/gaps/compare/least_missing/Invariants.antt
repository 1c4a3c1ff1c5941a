use Rattle.mesh_settled.proofs.Common.{IsLeastMissing}
use Rattle.mesh_settled.proofs.GapsLemmas.Apart.{IsEarlier}
use Rattle.mesh_settled.proofs.gaps.compare.least_missing.Given as goal

abbrev pub invariant-loop-i : goal.invariant-loop-i
invariant-loop-i l = IsLeastMissing (IsEarlier l.addrs l.i) l.others l.best
