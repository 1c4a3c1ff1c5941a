use Rattle.mesh_settled.proofs.Common.{ℕ, ◌<◌, HasAddressOn}
use Rattle.mesh_settled.proofs.gaps.joints.is_address_of.Given as goal

abbrev pub invariant-loop-i : goal.invariant-loop-i
invariant-loop-i l = (k : ℕ) → k < l.i → HasAddressOn l.settings k l.addr → ⊥
