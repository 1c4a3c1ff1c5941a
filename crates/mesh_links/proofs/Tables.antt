-- What a table has after two changes, and what stood where something of it was lent.
use Rattle.mesh_links.proofs.Common.{arith, common_steps, ◌≡◌, ℕ, refl, ◌∙◌, Bool, true, Option, Some, None, option_map, Base, find, SetsOnly}

-- what stood there
pub stood : {A B : Type 0} (f : A → B) (o : Option A) (y : B) → Some y ≡ option_map f o → (x : A) × (o ≡ Some x) × (y ≡ f x)
stood f None y h = absurd cc
stood f (Some x) y h = (x, refl, cc)

module _ {K V : Type 0} (eq : K → K → Bool) where
  -- a key has what was set last
  pub sets_again : (old mid new : Base K V) (key : K) (first second : Option (V × ℕ)) → SetsOnly eq old mid key first → SetsOnly eq mid new key second → SetsOnly eq old new key second
  sets_again old mid new key first second one two q = grind (arith, common_steps)

  -- what is set is there
  pub set_there : (old new : Base K V) (key : K) (entry : Option (V × ℕ)) → eq key key ≡ true → SetsOnly eq old new key entry → find eq new key ≡ entry
  set_there old new key entry same sets = sets key ∙ rw same refl
