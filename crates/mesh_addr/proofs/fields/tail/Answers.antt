use Rattle.mesh_addr.proofs.Common.{arith, rules, ℕ, tail_at, take-replicate}
use Rattle.mesh_addr.proofs.fields.tail.Goals as goal

pub returns-then-flags-ne0-2-clause-exact : goal.returns-then-flags-ne0-2-clause-exact
unfolding tail_at
returns-then-flags-ne0-2-clause-exact c = rw (c.requires.zeros, take-replicate {X = ℕ} c.in_ok-len.len 16 0 (omega (arith, c.in_ok-len.ensures.after))) (search rules)
