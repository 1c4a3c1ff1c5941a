-- Two tests.
use Rattle.mesh_routes.proofs.Common.{arith, common_steps, ◌≡◌, ◌↔◌, Bool, false, not, IsTrue}

-- neither of two
pub neither : {P Q : Type 0} (a b : Bool) → a ≡ false → IsTrue a ↔ P → IsTrue b ↔ Q → IsTrue (not b) ↔ ((P → ⊥) × (Q → ⊥))
neither a b e p q = grind (arith, common_steps)
