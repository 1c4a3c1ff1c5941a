-- Which of three holds.
use Rattle.mesh_flood.proofs.Common.{arith, common_steps, ◌⊎◌, ◌↔◌}

-- one of three holds exactly where one of three others does, each of which is the same
pub one_of : {T A B C P Q R : Type 0} → T ↔ (A ⊎ (B ⊎ C)) → A ↔ P → B ↔ Q → C ↔ R → T ↔ (P ⊎ (Q ⊎ R))
one_of t a b c = grind (arith, common_steps)
