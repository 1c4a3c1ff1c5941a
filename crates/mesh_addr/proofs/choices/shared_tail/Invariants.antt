use Rattle.mesh_addr.proofs.Common.{◌≡◌, ℕ, ◌≤◌, last_octets}
use Rattle.mesh_addr.proofs.choices.shared_tail.Given as goal

abbrev pub invariant-loop-len : goal.invariant-loop-len
invariant-loop-len l = record {
  within : l.len ≤ l.most;
  greatest : (n : ℕ) → n ≤ l.most → last_octets l.width n l.a ≡ last_octets l.width n l.b → n ≤ l.len;
}

abbrev pub decreases-loop-len : goal.decreases-loop-len
decreases-loop-len l = l.len
