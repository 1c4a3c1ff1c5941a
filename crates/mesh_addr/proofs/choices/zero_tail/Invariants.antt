use Rattle.mesh_addr.proofs.Common.{ℕ, ◌≤◌, EndsInZeros}
use Rattle.mesh_addr.proofs.choices.zero_tail.Given as goal

abbrev pub invariant-loop-len : goal.invariant-loop-len
invariant-loop-len l = record {
  within : l.len ≤ l.most;
  greatest : (n : ℕ) → n ≤ l.most → EndsInZeros l.width l.first n → n ≤ l.len;
}

abbrev pub decreases-loop-len : goal.decreases-loop-len
decreases-loop-len l = l.len
