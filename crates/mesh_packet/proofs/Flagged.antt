-- The place behind what is read where it is flagged.
use Rattle.mesh_packet.proofs.Common.{common_steps, ◌≡◌, ℕ, ◌+◌, ◌≤◌, Bool, Option, Ok, sym, subst, ◌∙◌, arith, IfOk, Reading, if_flagged}

-- in a range
abbrev pub Within : ℕ → ℕ → ℕ → Type 0
Within at end place = (place ≤ end) × (at ≤ place)

module _ {A : Type 0} (at end size place : ℕ) where
  there : (set : Bool) (read : Reading A) → Within at end place → IfOk read (λ x. (x.1 ≤ end) × (x.1 ≡ place + size)) → IfOk (if_flagged set place read) (λ x. Within at end x.1)
  unfolding if_flagged
  there set read here h = grind (arith, common_steps)

  -- what is behind a place of a range stands in it, where a part of so many octets does
  pub behind : (set : Bool) (read : Reading A) (r : Reading (Option A)) (x : Option A) (after : ℕ) → r ≡ if_flagged set place read → r ≡ Ok (x, after) → IfOk read (λ y. (y.1 ≤ end) × (y.1 ≡ place + size)) → Within at end place → Within at end after
  behind set read r x after e o h here = subst (λ (s : Reading (Option A)). IfOk s (λ z. Within at end z.1)) (sym e ∙ o) (there set read here h)
