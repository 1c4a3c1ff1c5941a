use Rattle.mesh_replay.proofs.Common.{ℕ, ◌<◌, length, get_or, Addr4}
use Rattle.mesh_replay.proofs.checking.relays.is_ascending.Given as goal

abbrev pub invariant-loop-i : goal.invariant-loop-i
invariant-loop-i l = (j k : ℕ) (d : Addr4) → j < k → k < l.i → k < length l.addrs → (get_or l.addrs j d).0 < (get_or l.addrs k d).0
