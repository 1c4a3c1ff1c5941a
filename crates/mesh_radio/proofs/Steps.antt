-- One router takes a step.
use Rattle.mesh_radio.proofs.Common.{common_steps, ◌≡◌, ℕ, ◌<◌, ◌≤◌, List, Result, refl, length, get_or, All, Some, map, arith, slice_get, slice_set, OnOk, map-set, length-map, slice_get_read, slice_get_within, State, Frame, Event, Step, due, IsSendable, IsKeptOf, Stepped, KeepsDue, IsAfterTick, mapped_at, same_at}

module _ {A : Type 0} (state : A → State) (routers : List A) (x : ℕ) (here : State) (at : slice_get (map state routers) x ≡ Some here) where
  pub within : x < length routers
  within = let less = slice_get_within (map state routers) x here at in let count = length-map routers state in omega (arith, less, count)

  -- its state is that of the router there
  pub its_state : (was : A) → was ≡ get_or routers x was → here ≡ state was
  its_state was is = same_at (map state routers) x here (state was) at (mapped_at state routers x was (slice_get_read routers (length routers) x was refl within is))

  -- where that router takes a step, it alone does
  stepped : (until now : ℕ) (event : Event) (sent : List Frame) (was then : A) (Change : State → State → Type 0) → was ≡ get_or routers x was →
      (whole : State) × Step (state was) event sent whole × IsKeptOf until whole (state then) → All (IsSendable (state was).settings) sent → (state then).settings ≡ (state was).settings →
      (state then).last ≤ now → (state was).last ≤ (state then).last → Change (state was) (state then) →
      Stepped until (map state routers) (map state (slice_set routers x then)) x now event sent Change
  stepped until now event sent was then Change is step sendable settings last no_earlier change = record {
    was = state was;
    whole = step.0;
    is = state then;
    stood = mapped_at state routers x was (slice_get_read routers (length routers) x was refl within is);
    routers = map-set state routers x then;
    step = step.1;
    rest = step.2;
    sendable = sendable;
    settings = settings;
    last = last;
    no_earlier = no_earlier;
    change = change;
  }

  -- where it hears a frame
  pub hears : {U E : Type 0} (came : Result U E) (until now : ℕ) (event : Event) (sent : List Frame) (was then : A) → was ≡ get_or routers x was →
      OnOk came ((whole : State) × Step (state was) event sent whole × IsKeptOf until whole (state then)) → OnOk came (All (IsSendable (state was).settings) sent) → OnOk came ((state then).settings ≡ (state was).settings) →
      OnOk came ((state then).last ≤ now) → OnOk came ((state was).last ≤ (state then).last) → OnOk came (due (state then) ≡ due (state was)) →
      OnOk came (Stepped until (map state routers) (map state (slice_set routers x then)) x now event sent KeepsDue)
  hears came until now event sent was then is step sendable settings last no_earlier due_is = grind (arith, common_steps, stepped)

  -- where it ticks
  pub ticks : {U E : Type 0} (came : Result U E) (until now : ℕ) (event : Event) (sent : List Frame) (was then : A) → was ≡ get_or routers x was → (state was).last ≤ now →
      OnOk came ((whole : State) × Step (state was) event sent whole × IsKeptOf until whole (state then)) → OnOk came (All (IsSendable (state was).settings) sent) → OnOk came ((state then).settings ≡ (state was).settings) →
      OnOk came ((state then).last ≡ now) → OnOk came (now < due (state then)) →
      OnOk came (Stepped until (map state routers) (map state (slice_set routers x then)) x now event sent (IsAfterTick now))
  ticks came until now event sent was then is later step sendable settings last due_later = grind (arith, common_steps, stepped)
