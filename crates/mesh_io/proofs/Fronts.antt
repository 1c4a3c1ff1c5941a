-- Text that is put and written in pieces.
use Rattle.mesh_io.proofs.Common.{common_steps, ◌≡◌, ℕ, ◌+◌, Bool, true, false, ltb, List, [], ◌++◌, length, take, Option, refl, ap, ◌∙◌, arith, append_assoc, Appends, Keeps, ltb-true, ltb-false, take-append-add, take-append-le, take_all, take_at}
use Rattle.mesh_io.proofs.Steps.{appends_more}

-- a piece stands at the end now
pub record Adds (old piece new : List ℕ) : Type 0 where
  pub is : new ≡ old ++ piece

pub join : {old first between second new : List ℕ} → Adds old first between → Adds between second new → Adds old (first ++ second) new
join {old} {first} {between} {second} {new} h k = record { is = k.is ∙ ap (λ (l : List ℕ). l ++ second) h.is ∙ append_assoc old first second }

pub keeps_same : (o : Option (List ℕ)) → Keeps o o
keeps_same o = grind (arith, common_steps)

pub appends_none : (o : Option (List ℕ)) → Appends o o []
appends_none o = grind (arith, common_steps)

-- a front of `x` is a front of `x ++ y`
pub front_first : (a b : Option (List ℕ)) (x y : List ℕ) → (n : ℕ) × Appends a b (take n x) → (n : ℕ) × Appends a b (take n (x ++ y))
front_first a b x y (n, h) = by (ltb (length x) n) refl where
  by : (past : Bool) → ltb (length x) n ≡ past → (m : ℕ) × Appends a b (take m (x ++ y))
  by true e = (length x, rw (take_at x y (length x) refl) (rw (take_all n x (omega (arith, ltb-true _ _ e))) at h))
  by false e = (n, rw (take-append-le n x y (ltb-false _ _ e)) h)

-- `x`, and then a front of `y`
pub front_second : (a b c : Option (List ℕ)) (x y : List ℕ) → Appends a b x → (n : ℕ) × Appends b c (take n y) → (n : ℕ) × Appends a c (take n (x ++ y))
front_second a b c x y first (n, h) = (length x + n, rw (take-append-add x y n) (appends_more a b c x (take n y) first h))
