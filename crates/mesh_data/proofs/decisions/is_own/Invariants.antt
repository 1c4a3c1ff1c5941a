use Rattle.mesh_data.proofs.Common.{ℕ, ◌<◌, HasAddressOn}
use Rattle.mesh_data.proofs.decisions.is_own.Given as goal

abbrev pub invariant-loop-j : goal.invariant-loop-j
invariant-loop-j l = (k : ℕ) → k < l.j → HasAddressOn l.settings k l.addr → ⊥
