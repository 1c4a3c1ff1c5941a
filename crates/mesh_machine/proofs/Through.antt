-- What each router of a network comes through.
use Rattle.mesh_machine.proofs.Common.{common_steps, ◌≡◌, ℕ, ◌<◌, List, [], ◌∷◌, refl, sym, ◌∙◌, ap, subst, length, map, All, Bool, true, false, true≢false, Some, arith, length-set, zero, suc, slice_get, slice_set, nat_eq, cond, ◌≢◌, eqb-true, eq-eqb, slice_get_within, get_or_from_slice_get, slice_get-get_or, Scenario, Sound, State, Frame, Step, Ticked, Tick, Steps, No_events, First_event, due, NetState, NetStep, By_delivery, By_tick, By_last_tick, Moves, HasOnlyLastTicks, event_of, frames_of, Traffic, Delivery, with_heard, item_at as stands, set_here}
use Rattle.mesh_machine.proofs.Effects.{ticks_due}
use Rattle.mesh_machine.proofs.Opening.{runs_sound}
use Rattle.mesh_atoms.specs.declared.network.NetEvent.{NetEvent}
use Rattle.mesh_machine.specs.NetRun.{NetRun, AreMachines, EndTogether, events_at}
use Rattle.mesh_machine.proofs.Sent.{first_and_others, sent_later}
use Rattle.mesh_machine.proofs.Places.{same_at, set_at, set_there}

-- Each event moves one router

pub moves_of : (old new : NetState) (event : NetEvent) → NetStep old event new → (before : Traffic) × Moves old event before new
moves_of old new event (By_delivery d) = (with_heard old.traffic d.others, d.moves)
moves_of old new event (By_tick t) = (old.traffic, t.moves)
moves_of old new event (By_last_tick t) = (old.traffic, t.moves)

-- what a router comes through
abbrev Through : ℕ → State → List NetEvent → NetState → Type 0
Through x was own new = (state : State) × (slice_get new.routers x ≡ Some state) × Steps was (map event_of own) (map frames_of own) state

-- one event more: its own, or another router's
one_through : (here mid new : NetState) (event : NetEvent) (events : List NetEvent) (x : ℕ) (was : State) → NetStep here event mid → slice_get here.routers x ≡ Some was →
    ((s : State) → slice_get mid.routers x ≡ Some s → Through x s (events_at x events) new) → Through x was (events_at x (event ∷ events)) new
one_through here mid new event events x was step at rest = by (nat_eq event.router x) refl
  where
    m : Moves here event (moves_of here mid event step).0 mid
    m = (moves_of here mid event step).1

    by : (b : Bool) → nat_eq event.router x ≡ b → Through x was (cond b (event ∷ events_at x events) (events_at x events)) new
    by true own =
        let is : event.router ≡ x = eqb-true event.router x own in
        let same : m.was ≡ was = same_at here.routers x m.was was (subst (λ (y : ℕ). slice_get here.routers y ≡ Some m.was) is m.stood) at in
        let put : slice_get (slice_set here.routers event.router m.is) x ≡ Some m.is = subst (λ (y : ℕ). slice_get (slice_set here.routers y m.is) x ≡ Some m.is) (sym is) (set_here here.routers x m.is was at) in
        let there : slice_get mid.routers x ≡ Some m.is = subst (λ (l : List State). slice_get l x ≡ Some m.is) (sym m.routers) put in
        let through = rest m.is there in
        (through.0, through.1, First_event (subst (λ (s : State). Step s (event_of event) (frames_of event) m.is) same m.step) through.2)
    by false other =
        rest was (subst (λ (l : List State). slice_get l x ≡ Some was) (sym m.routers) (set_there here.routers event.router m.is x was (λ e. true≢false (sym (eq-eqb event.router x (sym e)) ∙ other)) at))

come_through : (events : List NetEvent) (here new : NetState) → NetRun here events new → (x : ℕ) (was : State) → slice_get here.routers x ≡ Some was → Through x was (events_at x events) new
come_through [] here new is x was at = (was, subst (λ (n : NetState). slice_get n.routers x ≡ Some was) (sym is) at, No_events)
come_through (event ∷ events) here new (mid, step, run) x was at = one_through here mid new event events x was step at (come_through events mid new run x)

pub are_machines : AreMachines
are_machines scenario opening events net opens run x settings at =
    let first = stands opening.routers x (rw opens.count (slice_get_within scenario.routers x settings at)) in
    let through = come_through events opening net run x first.0 first.1 in
    (through.0, through.1, (first.0, opens.opening x settings first.0 at first.1, through.2))

-- The last ticks

-- what holds of the routers of a network that have had their last tick
record IsEnding (scenario : Scenario) (net : NetState) : Type 0 where
  scenario_is : net.scenario ≡ scenario
  count : length net.routers ≡ length scenario.routers
  only : 0 < net.last_ticks → HasOnlyLastTicks net
  ended : (x : ℕ) (s : State) → slice_get net.routers x ≡ Some s → x < net.last_ticks → s.last ≡ scenario.end

module _ (scenario : Scenario) (old : NetState) (event : NetEvent) (before : Traffic) (new : NetState) (moves : Moves old event before new) where
  same_count : length new.routers ≡ length old.routers
  same_count = ap length moves.routers ∙ length-set old.routers event.router moves.is

  -- before the first of the last ticks
  still_going : IsEnding scenario old → new.last_ticks ≡ 0 → IsEnding scenario new
  still_going h none = grind (arith, common_steps, same_count)

-- what holds of all due moments holds of that of the router there
due_at : (P : ℕ → Type 0) (routers : List State) (x : ℕ) (s : State) → slice_get routers x ≡ Some s → All (λ t. P (due t)) routers → P (due s)
due_at P routers x s at h = subst (λ (t : State). P (due t)) (get_or_from_slice_get routers x s s at) (h x s (slice_get_within routers x s at))

-- what a tick leaves
after_tick : (was is : State) (now : ℕ) (sent : List Frame) → Step was (Tick now) sent is → (is.last ≡ now) × (now < due is)
after_tick was is now sent (Ticked ticks) = (ticks.renews.last, ticks_due was now sent is ticks)

ending_more : (scenario : Scenario) (old new : NetState) (event : NetEvent) → NetStep old event new → IsEnding scenario old → IsEnding scenario new
ending_more scenario old new event (By_delivery d) h = still_going scenario old event (with_heard old.traffic d.others) new d.moves h (none new.last_ticks d.last_ticks)
  where
    none : (n : ℕ) → n ≡ old.last_ticks → n ≡ 0
    none zero e = refl
    none (suc n) e = absurd (
        let late = (first_and_others (λ (f : Delivery). old.scenario.end < f.moment) old.traffic.air d.delivery d.others d.next.first (h.only (omega (arith, e))).no_frames).0 in
        let soon = d.next.in_time in
        omega (arith, late, soon))
ending_more scenario old new event (By_tick t) h = still_going scenario old event old.traffic new t.moves h (none new.last_ticks t.last_ticks)
  where
    none : (n : ℕ) → n ≡ old.last_ticks → n ≡ 0
    none zero e = refl
    none (suc n) e = absurd (
        let first = t.next.first in
        let late = due_at (λ m. old.scenario.end < m) old.routers event.router first.state first.stands (h.only (omega (arith, e))).no_ticks in
        let is = first.is in
        let soon = t.next.in_time in
        omega (arith, late, is, soon))
ending_more scenario old new event (By_last_tick t) h = grind (arith, common_steps, same_count, sent_later, slice_get-get_or, after_tick, set_at, due_at)

run_ending : (scenario : Scenario) (events : List NetEvent) (here new : NetState) → NetRun here events new → IsEnding scenario here → IsEnding scenario new
run_ending scenario [] here new is h = subst (IsEnding scenario) (sym is) h
run_ending scenario (event ∷ events) here new (mid, step, run) h = run_ending scenario events mid new run (ending_more scenario here mid event step h)

pub end_together : EndTogether
end_together scenario opening events net opens run over x state at =
    let begun : IsEnding scenario opening = record {
      scenario_is = opens.scenario_is;
      count = opens.count;
      only = λ some. absurd (let none = opens.last_ticks in omega (arith, some, none));
      ended = λ x s at lt. absurd (let none = opens.last_ticks in omega (arith, lt, none));
    } in
    let ending = run_ending scenario events opening net run begun in
    let below : x < length net.routers = slice_get_within net.routers x state at in
    let settings = stands scenario.routers x (rw (← ending.count) below) in
    let machine = are_machines scenario opening events net opens run x settings.0 settings.1 in
    let same : machine.0 ≡ state = same_at net.routers x machine.0 state machine.1 at in
    (subst Sound same (runs_sound settings.0 _ _ machine.0 machine.2), ending.ended x state at (rw over.last_ticks below))
