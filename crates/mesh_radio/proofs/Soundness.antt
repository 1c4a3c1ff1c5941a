-- What holds of the routers after an event.
use Rattle.mesh_radio.proofs.Common.{common_steps, ◌≡◌, ℕ, ◌+◌, ◌≤◌, List, refl, sym, ◌∙◌, ap, subst, length, get_or, arith, All, Some, inl, inr, length-set, slice_get, slice_set, ◌⊎◌, ◌≢◌, slice_get-get_or, slice_get_within, State, Scenario, Frame, Event, due, IsFirstDue, AreRouterStates, AreKeptOf, HadLastTicks, KeepsDue, Stepped, IsAfterTick, same_at, set_at, item_at as stands}

pub later_routers : (s : Scenario) (earlier now : ℕ) (routers : List State) → earlier ≤ now → AreRouterStates s earlier routers → AreRouterStates s now routers
later_routers s earlier now routers le h = grind (arith, common_steps)

module _ {until : ℕ} {old new : List State} {x now : ℕ} {event : Event} {frames : List Frame} {Change : State → State → Type 0} (step : Stepped until old new x now event frames Change) where
  pub same_count : length new ≡ length old
  same_count = ap length step.routers ∙ length-set old x step.is

  -- a router after a step: the one that took it, or another
  after_step : (y : ℕ) (t : State) → slice_get new y ≡ Some t → ((y ≡ x) × (t ≡ step.is)) ⊎ ((y ≢ x) × (slice_get old y ≡ Some t))
  after_step y t at = set_at old x step.is y t (subst (λ (l : List State). slice_get l y ≡ Some t) step.routers at)

  pub routers_after : (s : Scenario) → AreRouterStates s now old → AreRouterStates s now new
  routers_after s h = grind (arith, common_steps, same_count, after_step)

  -- what is kept of the routers is kept of those to which the step leads
  pub kept_after : AreKeptOf until (slice_set old x step.whole) new
  kept_after = grind (arith, common_steps, same_count, set_at, after_step, same_at)

  -- a router that had its tick at the end has had it
  pub still_ended : (end count : ℕ) → HadLastTicks end count old → HadLastTicks end count new
  still_ended end count h y t at lt = grind (arith, common_steps, after_step)

-- the next tick at the end
pub one_ended : {until : ℕ} {old new : List State} {x end : ℕ} {event : Event} {frames : List Frame} (step : Stepped until old new x end event frames (IsAfterTick end)) →
    HadLastTicks end x old → HadLastTicks end (x + 1) new
one_ended {x} {end} step h y t at lt = elim (after_step step y t at) [
  | inl (a, b) ↦ let last = step.change.last_is in rw b (omega (arith, last))
  | inr (a, b) ↦ h y t b (omega (arith, a, lt))
]

module _ {until : ℕ} {old new : List State} {x now : ℕ} {event : Event} {frames : List Frame} (step : Stepped until old new x now event frames KeepsDue) where
  -- where a step leaves its router's due moment, all due moments stay
  due_before : (y : ℕ) (t : State) → slice_get new y ≡ Some t → (u : State) × (slice_get old y ≡ Some u) × (due t ≡ due u)
  due_before y t at = elim (after_step step y t at) [
    | inl (a, b) ↦ (step.was, rw a step.stood, rw b step.change)
    | inr (a, b) ↦ (t, b, refl)
  ]

  pub same_first : (r m : ℕ) → IsFirstDue old r m → IsFirstDue new r m
  same_first r m first =
      let there = stands new r (rw (same_count step) (slice_get_within old r first.state first.stands)) in
      let was = due_before r there.0 there.1 in
      record {
        state = there.0;
        stands = there.1;
        is = first.is ∙ ap due (same_at old r first.state was.0 first.stands was.1) ∙ sym was.2;
        no_earlier = λ y t at. let u = due_before y t at in rw u.2 (first.no_earlier y u.0 u.1);
        later = λ y t at lt. let u = due_before y t at in rw u.2 (first.later y u.0 u.1 lt);
      }

-- after a tick all are due no earlier than the tick
pub due_from : {until : ℕ} {old new : List State} {x now : ℕ} {event : Event} {frames : List Frame} (r m first : ℕ) (step : Stepped until old new x now event frames (IsAfterTick now)) →
    ((y : ℕ) (t : State) → slice_get old y ≡ Some t → first ≤ due t) → now ≤ first → IsFirstDue new r m → now ≤ m
due_from {now} r m first step h le is =
    elim (after_step step r is.state is.stands) [
      | inl (a, b) ↦ let e : m ≡ due step.is = is.is ∙ ap due b in let lt = step.change.due_later in omega (arith, e, lt)
      | inr (a, b) ↦ let old_one = h r is.state b in let e = is.is in omega (arith, e, old_one, le)
    ]

-- what holds of the due moment of each router
pub all_due : (P : ℕ → Type 0) (routers : List State) → ((y : ℕ) (t : State) → slice_get routers y ≡ Some t → P (due t)) → All (λ t. P (due t)) routers
all_due P routers h k d lt = h k (get_or routers k d) (slice_get-get_or routers k d lt)
