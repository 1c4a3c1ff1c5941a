-- Turns as runs of the router's machine.
use Rattle.mesh_run.proofs.Common.{arith, common_steps, ◌≡◌, ℕ, Bool, cond, List, [], ◌++◌, ◌∷◌, drop, get_or, Option, Some, None, refl, ap, ◌∙◌, nat_le, append-nil, State, Report, Frame, Event, Tick, Step, Steps, No_events, First_event, due, handed, ear_of, heard_at, AreHanded, DoesEvent, tick_of, Position, RunsTurns, Stays, Then_begins, Then_listens, flat_map-append}
use Rattle.std.specs.List.{flat_map}
use Rattle.mesh_texts.proofs.machine.Opening.{runs_sound}
use Rattle.mesh_run.specs.Turns.Laws.{HeardFrame, heard_by, heard_in, TurnsAreRuns, TurnsKeepSound}

-- one step more
steps_more : (old mid new : State) (events : List Event) (sent : List (List Frame)) (event : Event) (frames : List Frame) →
    Steps old events sent mid → Step mid event frames new → Steps old (events ++ event ∷ []) (sent ++ frames ∷ []) new
steps_more old mid new events sent event frames No_events step = First_event step No_events
steps_more old mid new events sent event frames (First_event {mid = next} {events = more} {more = others} first rest) step =
    First_event first (steps_more next mid new more others event frames rest step)

-- frames that were handed over are what was handed over, and nothing was heard
one_handed : (report : Report) (frame : Frame) → handed report ≡ frame ∷ [] → heard_in report ≡ []
one_handed report frame e = grind (arith, common_steps)

all_handed : (frames : List Frame) (reports : List Report) → AreHanded frames reports →
    (flat_map handed reports ≡ frames) × (flat_map heard_in reports ≡ [])
all_handed [] [] e = (refl, refl)
all_handed [] (report ∷ reports) e = absurd cc
all_handed (frame ∷ frames) [] e = absurd cc
all_handed (frame ∷ frames) (report ∷ reports) e =
    let here : handed report ≡ frame ∷ [] = ap (λ (l : List (List Frame)). get_or l 0 []) e in
    let rest : AreHanded frames reports = ap (λ (l : List (List Frame)). drop 1 l) e in
    let more = all_handed frames reports rest in
    (rw (here, more.0) refl, rw (one_handed report frame here, more.1) refl)

-- what a router came through, by what an air told
record Through (start : State) (reports : List Report) (state : State) : Type 0 where
  events : List Event
  sent : List (List Frame)
  steps : Steps start events sent state
  heard : flat_map heard_by events ≡ flat_map heard_in reports
  are_handed : flat_map (λ (frames : List Frame). frames) sent ≡ flat_map handed reports

-- what is heard where there may be an event
heard_of : Option Event → List HeardFrame
heard_of None = []
heard_of (Some event) = heard_by event

-- reports, an ear perhaps, and then more
told_in : {A : Type 0} (f : Report → List A) (reports first more : List Report) →
    flat_map f (reports ++ (first ++ more)) ≡ flat_map f reports ++ (flat_map f first ++ flat_map f more)
told_in f reports first more = grind (arith, common_steps, flat_map-append)

-- an event more, where there is one
through_more : (start mid new : State) (reports first more : List Report) (event : Option Event) → Through start reports mid →
    DoesEvent mid event more new → flat_map heard_in first ≡ heard_of event → flat_map handed first ≡ [] →
    Through start (reports ++ (first ++ more)) new
unfolding heard_of
through_more start mid new reports first more None t does heard none = grind (arith, common_steps, handed)
through_more start mid new reports first more (Some event) t (frames, step, sent) heard none =
    let all = all_handed frames more sent in record {
      events = t.events ++ event ∷ [];
      sent = t.sent ++ frames ∷ [];
      steps = steps_more start mid new t.events t.sent event frames t.steps step;
      heard = flat_map-append heard_by t.events (event ∷ []) ∙ rw (t.heard, told_in heard_in reports first more, heard, all.1) refl;
      are_handed = flat_map-append (λ (l : List Frame). l) t.sent (frames ∷ []) ∙ rw (t.are_handed, told_in handed reports first more, none, all.0, append-nil) refl;
    }

-- a tick hears nothing
tick_hears : (ends is_due : Bool) (end now : ℕ) → [] ≡ heard_of (cond ends (Some (Tick end)) (cond is_due (Some (Tick now)) None))
unfolding heard_of
tick_hears ends is_due end now = grind (arith, common_steps)

-- an ear is what is heard, and nothing that is handed over
ear_hears : (ear : Report) (now iface : ℕ) → ear_of ear ≡ Some iface →
    (flat_map heard_in (ear ∷ []) ≡ heard_of (heard_at now ear)) × (flat_map handed (ear ∷ []) ≡ [])
unfolding heard_of
ear_hears ear now iface e = grind (arith, common_steps)

goes_through : (end count : ℕ) (start : Position) (moments : List ℕ) (reports : List Report) (stop : Position) →
    RunsTurns DoesEvent end count start moments reports stop → Through start.state reports stop.state
goes_through end count start moments reports stop Stays = record { events = []; sent = []; steps = No_events; heard = refl; are_handed = refl }
goes_through end count start moments reports stop (Then_begins {moments = ms} {reports = rs} {more = more} {mid = mid} goes begins) =
    through_more start.state mid.state stop.state rs [] more (tick_of end stop.moment mid.state) (goes_through end count start ms rs mid goes)
    begins.does (tick_hears (nat_le end stop.moment) (nat_le (due mid.state) stop.moment) end stop.moment) refl
goes_through end count start moments reports stop (Then_listens {moments = ms} {reports = rs} {more = more} {mid = mid} {ear = ear} goes listens) =
    let hears = ear_hears ear mid.moment mid.next listens.heard in
    through_more start.state mid.state stop.state rs (ear ∷ []) more (heard_at mid.moment ear) (goes_through end count start ms rs mid goes)
    listens.does hears.0 hears.1

pub are_runs : TurnsAreRuns
are_runs setup moments reports position goes =
    let through = goes_through _ _ _ moments reports position goes.goes in
    record {
      events = through.events;
      sent = through.sent;
      run = (goes.opening, goes.is_opening, through.steps);
      heard = through.heard;
      are_handed = through.are_handed;
    }

pub keep_sound : TurnsKeepSound
keep_sound setup moments reports position goes =
    let run = are_runs setup moments reports position goes in
    runs_sound setup.router run.events run.sent position.state run.run
