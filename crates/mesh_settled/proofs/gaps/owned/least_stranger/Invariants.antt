use Rattle.mesh_settled.proofs.Common.{IsLeastMissing, all_addresses}
use Rattle.mesh_settled.proofs.GapsLemmas.Apart.{IsEarlier}
use Rattle.mesh_settled.proofs.gaps.owned.least_stranger.Given as goal

abbrev pub invariant-loop-i : goal.invariant-loop-i
invariant-loop-i l = IsLeastMissing (IsEarlier l.addrs l.i) (all_addresses l.settings.interfaces) l.best
