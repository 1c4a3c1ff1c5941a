-- A walk over the keys of links drops the tuples of those that ended.
use Rattle.mesh_nhdp.proofs.Common.{arith, common_steps, ◌≡◌, ℕ, ◌+◌, ◌⊎◌, inl, inr, refl, ◌∙◌, subst, List, length, Contains, slice_get, Option, Some, None, Bool, true, false, cond, not, ◌&&◌, LinkKey, TwoHop, link_eq, IsKept, SomeBelow, below_here, below_later, below_cases, below_contains}
use Rattle.mesh_nhdp.proofs.Composes.{kept_iff}
use Rattle.mesh_nhdp.proofs.TwoHops.{link_eq_same}

-- a key below the place is that of a link, which isn't SYMMETRIC
abbrev pub IsEndedBelow : (keys : List LinkKey) (symmetric : LinkKey → Bool) (n : ℕ) (link : LinkKey) → Type 0
IsEndedBelow keys symmetric n link = SomeBelow keys n (λ x. x ≡ link) × (symmetric link ≡ false)

module _ (keys : List LinkKey) (symmetric : LinkKey → Bool) (n : ℕ) (key link : LinkKey) (at : slice_get keys n ≡ Some key) where
  -- a step changes only tuples of the link of its key, where that ended
  ended_here : symmetric key ≡ false → link_eq link key ≡ true → IsEndedBelow keys symmetric (n + 1) link
  ended_here ended is = grind (arith, common_steps, below_here)

  not_ended_here : (symmetric key ≡ true) ⊎ (link_eq link key ≡ false) → IsEndedBelow keys symmetric (n + 1) link → IsEndedBelow keys symmetric n link
  not_ended_here not h1 = grind (arith, common_steps, below_cases, link_eq_same)

  ended_later : IsEndedBelow keys symmetric n link → IsEndedBelow keys symmetric (n + 1) link
  ended_later (below, ended) = (below_later keys (λ x. x ≡ link) n below, ended)

  pub ended_more : (o m new : Option (TwoHop × ℕ)) → IsKept (λ t. IsEndedBelow keys symmetric n link → ⊥) o m →
      new ≡ cond (link_eq link key && not (symmetric key)) None m → IsKept (λ t. IsEndedBelow keys symmetric (n + 1) link → ⊥) o new
  ended_more o m new kept is = by_case o (link_eq link key) (symmetric key) refl refl kept is
    where
      none_either : (b : Bool) → m ≡ None → new ≡ cond b None m → new ≡ None
      none_either true none is = is
      none_either false none is = is ∙ none

      by_case : (o : Option (TwoHop × ℕ)) (same symmetric_key : Bool) → link_eq link key ≡ same → symmetric key ≡ symmetric_key →
          IsKept (λ t. IsEndedBelow keys symmetric n link → ⊥) o m → new ≡ cond (same && not symmetric_key) None m → IsKept (λ t. IsEndedBelow keys symmetric (n + 1) link → ⊥) o new
      by_case None same sk e f none is = none_either (same && not sk) none is
      by_case (Some t) same sk e f (inr gone) is = inr (λ stays. gone.0 (λ ended. stays (ended_later ended)), none_either (same && not sk) gone.1 is)
      by_case (Some t) true false e f (inl stood) is = inr (λ stays. stays (ended_here f e), is)
      by_case (Some t) true true e f (inl stood) is = inl (λ ended. stood.0 (not_ended_here (inl f) ended), is ∙ stood.1)
      by_case (Some t) false sk e f (inl stood) is = inl (λ ended. stood.0 (not_ended_here (inr e) ended), is ∙ stood.1)

-- after the last step
pub ended_all : (keys : List LinkKey) (symmetric : LinkKey → Bool) (link : LinkKey) (o new : Option (TwoHop × ℕ)) →
    IsKept (λ t. IsEndedBelow keys symmetric (length keys) link → ⊥) o new → IsKept (λ t. (Contains keys link × (symmetric link ≡ false)) → ⊥) o new
ended_all keys symmetric link o new kept = kept_iff _ _ (λ t stays both. stays (to both)) (λ t stays ended. stays (from ended)) o new kept
  where
    to : Contains keys link × (symmetric link ≡ false) → IsEndedBelow keys symmetric (length keys) link
    to (c, ended) = ((below_contains keys (λ x. x ≡ link)).1 (link, c, refl), ended)

    from : IsEndedBelow keys symmetric (length keys) link → Contains keys link × (symmetric link ≡ false)
    from (below, ended) = let (x, c, same) = (below_contains keys (λ x. x ≡ link)).0 below in (subst (λ y. Contains keys y) same c, ended)
