use Rattle.mesh_emulate.proofs.Common.{◌≡◌, ◌+◌, map, range_with_len, pair}
use Rattle.mesh_emulate.proofs.making.pairs.ring_pairs.Given as goal

abbrev pub invariant-loop-i : goal.invariant-loop-i
invariant-loop-i l = l.pairs ≡ map (λ i. pair i (i + 1)) (range_with_len 0 l.i)
