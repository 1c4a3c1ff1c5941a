use Rattle.mesh_emulate.proofs.Common.{ℕ, ◌<◌, HasName}
use Rattle.mesh_emulate.proofs.wanted.router_named.Given as goal

abbrev pub invariant-loop-x : goal.invariant-loop-x
invariant-loop-x l = (k : ℕ) → k < l.x → HasName l.routers l.name k → ⊥
