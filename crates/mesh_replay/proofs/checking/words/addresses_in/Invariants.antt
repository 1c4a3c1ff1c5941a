use Rattle.mesh_replay.proofs.Common.{◌≡◌, ◌<◌, ◌^◌, All, List, length, Addr4, spaced}
use Rattle.mesh_replay.proofs.RelaysLemmas.Words.{IsLeft}
use Rattle.mesh_replay.proofs.checking.words.addresses_in.Given as goal

abbrev pub invariant-loop-left : goal.invariant-loop-left
invariant-loop-left l = (addrs : List Addr4) → All (λ a. a.0 < 2 ^ 32) addrs → l.fn.text ≡ spaced addrs → IsLeft addrs l.addrs l.left

abbrev pub decreases-loop-left : goal.decreases-loop-left
decreases-loop-left l = length l.left
