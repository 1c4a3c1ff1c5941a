-- What is told of flags by trying all of them.
use Rattle.mesh_tlv.proofs.Common.{arith, common_steps, ◌≡◌, Bool, true, false, not, ◌&&◌}

-- of both
abbrev pub both : (Bool → Bool) → Bool
both f = f true && f false

pub both_is : (f : Bool → Bool) → both f ≡ true → (b : Bool) → f b ≡ true
both_is f h b = grind (arith, common_steps)

abbrev pub same : Bool → Bool → Bool
same true b = b
same false b = not b

pub same_is : (a b : Bool) → same a b ≡ true → a ≡ b
same_is a b h = grind (arith, common_steps)
