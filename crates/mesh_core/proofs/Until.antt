-- What an event promises of a router that may put off relays and routes, put together, and what its clauses say.
use Rattle.mesh_core.proofs.Common.{common_steps, ◌≡◌, ◌<◌, ◌≤◌, ℕ, List, [], Result, Ok, Err, true, subst, arith, All, OnOk, Sound, State, Arrival, Heard, Frame, Event, Hear, Tick, Step, Heard_frame, Ticked, due, IsSendable, step_sound, EventWants, Outdated, IsKeptOf, IsKeptFor, HearsTo, TicksTo, StepsUntil, HearsUntil, TicksUntil, CoreValue}
use Rattle.mesh_core.proofs.Clauses.{all_kept}

module _ (wants : EventWants) (until now : ℕ) (relays : until ≤ now → wants.relays ≡ true) (routes : until ≤ now → wants.routes ≡ true) where
  kept_until : (whole new : State) → new.last ≤ now → IsKeptFor wants whole new → IsKeptOf until whole new
  kept_until whole new before kept = grind (arith, common_steps, all_kept)

-- what was wanted is all that isn't put off
pub heard_until : (wants : EventWants) (until : ℕ) {old : State} {arrival : Arrival} {bytes : List ℕ} {answer : Heard} {sent : List Frame} {outdated : Outdated} {new : State} →
    (until ≤ arrival.now → wants.relays ≡ true) → (until ≤ arrival.now → wants.routes ≡ true) → HearsTo wants old arrival bytes answer [] sent outdated new → HearsUntil until old arrival bytes sent outdated new
heard_until wants until {old} {arrival} {bytes} {answer} {sent} {outdated} {new} relays routes to = record {
  steps = record {
    step = (to.leaves.whole, Heard_frame answer to.leaves.leads, kept_until wants until arrival.now relays routes to.leaves.whole new to.last to.leaves.rest);
    sendable = to.sendable;
    settings = to.settings;
    sound = to.sound;
    current = to.leaves.current;
  };
  last = to.last;
  no_earlier = to.no_earlier;
  due = to.due;
}

pub ticked_until : (wants : EventWants) (until : ℕ) {old : State} {now : ℕ} {before sent : List Frame} {outdated : Outdated} {new : State} → before ≡ [] →
    (until ≤ now → wants.relays ≡ true) → (until ≤ now → wants.routes ≡ true) → TicksTo wants old now before sent outdated new → TicksUntil until old now sent outdated new
ticked_until wants until {old} {now} {before} {sent} {outdated} {new} none relays routes ticks =
    let to : TicksTo wants old now [] sent outdated new = subst (λ (f : List Frame). TicksTo wants old now f sent outdated new) none ticks in
    record {
      steps = record {
        step = (to.leaves.whole, Ticked to.leaves.leads, kept_until wants until now relays routes to.leaves.whole new (let is = to.last in omega (arith, is)) to.leaves.rest);
        sendable = to.sendable;
        settings = to.settings;
        sound = to.sound;
        current = to.leaves.current;
      };
      last = to.last;
      due = to.due;
    }

-- a router that puts nothing off stays sound
pub whole_sound : (old : State) (event : Event) (sent : List Frame) (outdated : Outdated) (new : State) → Sound old → StepsUntil 0 old event sent outdated new → Sound new
whole_sound old event sent outdated new sound steps = grind (arith, common_steps, step_sound)

-- what is kept from the first moment on is kept from each on
pub kept_at_once : (until : ℕ) (whole new : State) → IsKeptOf 0 whole new → IsKeptOf until whole new
kept_at_once until whole new kept = grind (arith, common_steps)

-- What the clauses of a call say, whatever it answers

-- of a frame
pub record HearUntilClauses {A E : Type 0} (came : Result A E) (until : ℕ) (old : State) (arrival : Arrival) (bytes : List ℕ) (sent : List Frame) (new : State) : Type 0 where
  pub step : OnOk came ((whole : State) × Step old (Hear arrival bytes) sent whole × IsKeptOf until whole new)
  pub sendable : OnOk came (All (IsSendable old.settings) sent)
  pub settings : OnOk came (new.settings ≡ old.settings)
  pub last : OnOk came (new.last ≤ arrival.now)
  pub no_earlier : OnOk came (old.last ≤ new.last)
  pub due : OnOk came (due new ≡ due old)

pub hear_until_clauses : {A E : Type 0} {shown core : CoreValue} (came : Result A E) (until : ℕ) (arrival : Arrival) (bytes : List ℕ) (sent : List Frame) (outdated : Outdated) (new : State) → shown ≡ core →
    OnOk came (HearsUntil until shown.state arrival bytes sent outdated new) → HearUntilClauses came until core.state arrival bytes sent new
hear_until_clauses {A} {E} (Ok x) until arrival bytes sent outdated new is to =
    subst (λ (v : CoreValue). HearUntilClauses {A = A} {E = E} (Ok x) until v.state arrival bytes sent new) is
    (record { step = to.steps.step; sendable = to.steps.sendable; settings = to.steps.settings; last = to.last; no_earlier = to.no_earlier; due = to.due })
hear_until_clauses (Err e) until arrival bytes sent outdated new is to = record { step = tt; sendable = tt; settings = tt; last = tt; no_earlier = tt; due = tt }

-- of a tick of the clock
pub record TickUntilClauses {A E : Type 0} (came : Result A E) (until : ℕ) (old : State) (now : ℕ) (sent : List Frame) (new : State) : Type 0 where
  pub step : OnOk came ((whole : State) × Step old (Tick now) sent whole × IsKeptOf until whole new)
  pub sendable : OnOk came (All (IsSendable old.settings) sent)
  pub settings : OnOk came (new.settings ≡ old.settings)
  pub last : OnOk came (new.last ≡ now)
  pub due : OnOk came (now < due new)

pub tick_until_clauses : {A E : Type 0} {shown core : CoreValue} (came : Result A E) (until now : ℕ) (sent : List Frame) (outdated : Outdated) (new : State) → shown ≡ core →
    OnOk came (TicksUntil until shown.state now sent outdated new) → TickUntilClauses came until core.state now sent new
tick_until_clauses {A} {E} (Ok x) until now sent outdated new is to =
    subst (λ (v : CoreValue). TickUntilClauses {A = A} {E = E} (Ok x) until v.state now sent new) is
    (record { step = to.steps.step; sendable = to.steps.sendable; settings = to.steps.settings; last = to.last; due = to.due })
tick_until_clauses (Err e) until now sent outdated new is to = record { step = tt; sendable = tt; settings = tt; last = tt; due = tt }
