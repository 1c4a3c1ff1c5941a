use Rattle.mesh_emulate.proofs.Common.{◌≡◌, ◌+◌, ◌-◌, ◌*◌, more_pairs, random_pairs}
use Rattle.mesh_emulate.proofs.making.pairs.random_pairs.Given as goal

-- what stands, with the pairs that are still drawn, is the whole
abbrev pub invariant-loop-times : goal.invariant-loop-times
invariant-loop-times l =
    more_pairs l.seed l.routers (l.routers - 1 + 2 * l.times) (l.routers - l.times) l.pairs ≡ random_pairs l.seed l.routers
