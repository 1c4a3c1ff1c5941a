-- Expired tuples go one by one.
use Rattle.mesh_expire.proofs.Common.{arith, common_steps, ◌≡◌, ℕ, Bool, Option, Some, None, refl, ap, ◌∙◌, IsEquivalence, Base, find, if_live, Expires, IsFresh, TakesExpired}
use Rattle.mesh_expire.proofs.Laws.{find_same}

module _ {K V : Type 0} (eq : K → K → Bool) where
  -- an expired entry that goes changes nothing of what is live
  pub live_without : (laws : IsEquivalence eq) (now : ℕ) (key : K) (value : V) (old base base' : Base K V) → TakesExpired eq now key value base base'
      → ((q : K) → if_live now (find eq base q) ≡ if_live now (find eq old q)) → (q : K) → if_live now (find eq base' q) ≡ if_live now (find eq old q)
  live_without laws now key value old base base' takes live q = grind (arith, common_steps, find_same)

  -- what isn't expired is live
  fresh_live : (now : ℕ) (base : Base K V) → IsFresh eq now base → (q : K) → find eq base q ≡ if_live now (find eq base q)
  fresh_live now base fresh q = by_entry (find eq base q) refl where
    by_entry : (o : Option (V × ℕ)) → find eq base q ≡ o → find eq base q ≡ if_live now (find eq base q)
    by_entry None is = rw is refl
    by_entry (Some e) is = rw (is, fresh q e.0 e.1 is) refl

  -- where nothing is left that is expired, what is live is left
  pub all_expired : (now : ℕ) (old base new : Base K V) → new ≡ base → IsFresh eq now base → ((q : K) → if_live now (find eq base q) ≡ if_live now (find eq old q)) → Expires eq now old new
  all_expired now old base new same fresh live q = ap (λ (b : Base K V). find eq b q) same ∙ fresh_live now base fresh q ∙ live q
