use Rattle.mesh_nbrs.proofs.Common.{◌≡◌, ℕ, ◌<◌, get_or, IsSome, part_of}
use Rattle.mesh_nbrs.proofs.parts.has_part.Given as goal

abbrev pub invariant-loop-addr : goal.invariant-loop-addr
invariant-loop-addr l = (k : ℕ) (a : _) → k < l.addr-index → get_or l.addrs k a ≡ a → IsSome (part_of l.parts.entries a) → ⊥
