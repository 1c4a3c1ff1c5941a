-- What a TC leaves of one set of tuples.
use Rattle.mesh_laws.proofs.Common.{arith, common_steps, ◌≡◌, ℕ, Option, Some, None, Bool, true, cond, not, ◌&&◌, Addr4, Tc, Becomes, Given, Left, true_false, none_not, same_some}

-- a complete TC leaves of its originator's tuples those of its number
left_by : {A : Type 0} (mine complete same : Bool) (e f : A) → mine ≡ true → complete ≡ true → cond (mine && (complete && not same)) None (Some e) ≡ Some f → (same ≡ true) × (e ≡ f)
left_by mine complete same e f m c h = grind (arith, common_steps, none_not, true_false)

module _ {K V : Type 0} (tc : Tc) (until : ℕ) (from : K → Addr4) (number : V → ℕ) (Given_by : K → V → Type 0) (key : K) where
  -- a tuple that a row gives is there, as some row gives it
  pub given_so : {old new : Option (V × ℕ)} → Becomes tc until from number Given_by key old new → (value : V) → Given_by key value →
      (w : V) × Given_by key w × (new ≡ Some (w, until))
  given_so (Given w given is) value by_row = (w, given, is)
  given_so (Left none is) value by_row = absurd (none value by_row)

  -- after a complete TC each tuple of its originator has its number
  pub numbered_so : {old new : Option (V × ℕ)} (t : V × ℕ) → Becomes tc until from number Given_by key old new → ((w : V) → Given_by key w → number w ≡ tc.ansn) →
      tc.complete ≡ true → from key ≡ tc.originator → new ≡ Some t → number t.0 ≡ tc.ansn
  numbered_so t h1 numbered complete mine stands = grind (arith, common_steps, same_some, none_not, left_by)
