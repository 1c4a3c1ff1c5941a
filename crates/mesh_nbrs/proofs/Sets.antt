-- A base in which one key is set, and what is kept of one.
use Rattle.mesh_nbrs.proofs.Common.{arith, common_steps, ◌≡◌, ℕ, Bool, true, Option, ◌≢◌, refl, ◌∙◌, IsEquivalence, Base, find, SetsOnly}

module _ {K V : Type 0} {eq : K → K → Bool} (old new : Base K V) (key : K) (entry : Option (V × ℕ)) (sets : SetsOnly eq old new key entry) where
  pub set_there : IsEquivalence eq → find eq new key ≡ entry
  set_there laws = sets key ∙ rw (laws.refl key) refl

  pub set_elsewhere : ((a b : K) → eq a b ≡ true → a ≡ b) → (q : K) → q ≢ key → find eq new q ≡ find eq old q
  set_elsewhere exact q apart = grind (arith, common_steps)
