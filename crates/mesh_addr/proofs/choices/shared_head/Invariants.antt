use Rattle.mesh_addr.proofs.Common.{◌≡◌, ℕ, ◌≤◌, take}
use Rattle.mesh_addr.proofs.choices.shared_head.Given as goal

abbrev pub invariant-loop-len : goal.invariant-loop-len
invariant-loop-len l = record {
  within : l.len ≤ l.most;
  greatest : (n : ℕ) → n ≤ l.most → take n l.a.octets ≡ take n l.b.octets → n ≤ l.len;
}

abbrev pub decreases-loop-len : goal.decreases-loop-len
decreases-loop-len l = l.len
