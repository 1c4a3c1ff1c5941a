use Rattle.mesh_atoms.proofs.Common.{◌≡◌, ℕ, ◌<◌, get_or}
use Rattle.mesh_atoms.proofs.addresses.contains.Given as goal

abbrev pub invariant-loop-other : goal.invariant-loop-other
invariant-loop-other l = (k : ℕ) → k < l.other-index → get_or l.addrs k l.addr ≡ l.addr → ⊥
