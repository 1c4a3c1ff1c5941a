-- Routers, and what is kept of them.
use Rattle.mesh_radio.proofs.Common.{◌≡◌, ℕ, ◌≤◌, ◌∙◌, List, sym, subst, get_or, All, Some, slice_get, same_lists, slice_get-get_or, slice_get_within, get_or_from_slice_get, State, due, IsFirstDue, IsKeptOf, AreKeptOf, kept_due, item_at as stands}
use Rattle.mesh_radio.proofs.Soundness.{all_due}

module _ (until : ℕ) (wholes rests : List State) (kept : AreKeptOf until wholes rests) where
  -- the router of which this is kept
  pub whole_at : (x : ℕ) (rest : State) → slice_get rests x ≡ Some rest → (whole : State) × (slice_get wholes x ≡ Some whole) × IsKeptOf until whole rest
  whole_at x rest at =
      let there = stands wholes x (rw kept.count (slice_get_within rests x rest at)) in
      (there.0, there.1, kept.each x there.0 rest there.1 at)

  -- what is kept of this router
  pub rest_at : (x : ℕ) (whole : State) → slice_get wholes x ≡ Some whole → (rest : State) × (slice_get rests x ≡ Some rest) × IsKeptOf until whole rest
  rest_at x whole at =
      let there = stands rests x (rw (← kept.count) (slice_get_within wholes x whole at)) in
      (there.0, there.1, kept.each x whole there.0 at there.1)

  -- all is kept of routers that are no earlier than that moment
  pub all_kept : ((x : ℕ) (rest : State) → slice_get rests x ≡ Some rest → until ≤ rest.last) → wholes ≡ rests
  all_kept late = same_lists wholes rests kept.count (λ k d lt.
      let whole = slice_get-get_or wholes k d lt in
      let rest = slice_get-get_or rests k d (rw (← kept.count) lt) in
      (kept.each k (get_or wholes k d) (get_or rests k d) whole rest).from_then (late k (get_or rests k d) rest))

  -- what holds of the due moments
  pub dues_of : (P : ℕ → Type 0) → All (λ s. P (due s)) rests → All (λ s. P (due s)) wholes
  dues_of P h = all_due P wholes (λ x whole at.
      let (rest, there, is) = rest_at x whole at in
      let here : P (due rest) = subst (λ (s : State). P (due s)) (get_or_from_slice_get rests x rest rest there) (h x rest (slice_get_within rests x rest there)) in
      rw (kept_due until whole rest is) here)

  -- the one that is due first
  pub first_of : (x moment : ℕ) → IsFirstDue rests x moment → IsFirstDue wholes x moment
  first_of x moment first =
      let there = whole_at x first.state first.stands in
      record {
        state = there.0;
        stands = there.1;
        is = first.is ∙ sym (kept_due until there.0 first.state there.2);
        no_earlier = λ y whole at. let rest = rest_at y whole at in rw (kept_due until whole rest.0 rest.2) (first.no_earlier y rest.0 rest.1);
        later = λ y whole at lt. let rest = rest_at y whole at in rw (kept_due until whole rest.0 rest.2) (first.later y rest.0 rest.1 lt);
      }
