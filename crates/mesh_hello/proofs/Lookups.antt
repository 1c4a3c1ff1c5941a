-- What look-ups give.
use Rattle.mesh_hello.proofs.Common.{◌≡◌, ℕ, ◌⊎◌, Option, Some, arith, true, nat_lt, common_steps, LinkKey, if_live, same_some, none_not, same_address}

-- what is there and not expired was there, and its moment is later
pub live_from : {V : Type 0} (now : ℕ) (o : Option (V × ℕ)) (e : V × ℕ) → if_live now o ≡ Some e → (o ≡ Some e) × (nat_lt now e.1 ≡ true)
live_from now o e h = grind (arith, common_steps, none_not, same_some)

pub same_key : (a b : LinkKey) → (a ≡ b) ⊎ (a ≡ b → ⊥)
same_key a b = grind (arith, common_steps, same_address)
