-- Turns where routes and relays may be put off: whole states go through them too, of which those states are kept. At the end of a run nothing is
-- put off.
use Rattle.mesh_run.proofs.Common.{common_steps, ◌≡◌, ℕ, ◌<◌, ◌≤◌, List, Option, Some, None, refl, sym, ap, subst, arith, State, IsKeptOf, kept_through, step_from, Report, Frame, Event, Tick, Step, Ticked, KeepsEvent, heard_at, DoesEvent, tick_of, Position, RunsTurns, CameToNothing, Nothing, A_moment, An_ear, Stays, Then_begins, Then_listens}

-- The turns of whole states

-- an event of what is kept of a router is one of the router
event_from : (until : ℕ) (whole rest : State) (event : Option Event) (reports : List Report) (new : State) → IsKeptOf until whole rest →
    KeepsEvent until rest event reports new → KeepsEvent until whole event reports new
event_from until whole rest None reports new kept (mid, does, still) =
    (whole, (does.0, refl), kept_through until whole rest new kept (subst (λ (s : State). IsKeptOf until s new) does.1 still))
event_from until whole rest (Some event) reports new kept (mid, (frames, step, sent), still) =
    let (next, does, after) = step_from until whole rest event frames mid new kept step still in
    (next, (frames, does, sent), after)

-- the tick of a turn looks at no relays and routes
same_tick : (until end now : ℕ) (whole rest : State) → IsKeptOf until whole rest → tick_of end now whole ≡ tick_of end now rest
same_tick until end now whole rest kept = ap (tick_of end now) kept.same

-- whole states go through the turns of what is kept of them
pub whole_turns : (end count : ℕ) (start : Position) (whole : State) → IsKeptOf end whole start.state → (moments : List ℕ) (reports : List Report) (stop : Position) →
    RunsTurns (KeepsEvent end) end count start moments reports stop →
    (next : State) × RunsTurns DoesEvent end count (record start { state = whole }) moments reports (record stop { state = next }) × IsKeptOf end next stop.state
whole_turns end count start whole kept moments reports stop Stays = (whole, Stays, kept)
whole_turns end count start whole kept moments reports stop (Then_begins {moments = ms} {reports = rs} {more = more} {mid = mid} {told = told} goes begins) =
    let (rest, runs, still) = whole_turns end count start whole kept ms rs mid goes in
    let (next, does, after) = event_from end rest mid.state (tick_of end stop.moment mid.state) more stop.state still begins.does in (
      next,
      Then_begins runs (record {
        between = begins.between;
        going = begins.going;
        moment = begins.moment;
        does = subst (λ (event : Option Event). DoesEvent rest event more next) (sym (same_tick end end stop.moment rest mid.state still)) does;
        next = begins.next;
      }),
      after,
    )
whole_turns end count start whole kept moments reports stop (Then_listens {reports = rs} {more = more} {mid = mid} {ear = ear} goes listens) =
    let (rest, runs, still) = whole_turns end count start whole kept moments rs mid goes in
    let (next, does, after) = event_from end rest mid.state (heard_at mid.moment ear) more stop.state still listens.does in (
      next,
      Then_listens runs (record {
        within = listens.within;
        heard = listens.heard;
        does = does;
        moment = listens.moment;
        next = listens.next;
      }),
      after,
    )

-- what came to nothing, at the same place
pub lost_whole : (count : ℕ) (position : Position) (next : State) (moments : List ℕ) (reports : List Report) → CameToNothing count position moments reports →
    CameToNothing count (record position { state = next }) moments reports
lost_whole count position next moments reports Nothing = Nothing
lost_whole count position next moments reports (A_moment told between) = A_moment told between
lost_whole count position next moments reports (An_ear ear within heard) = An_ear ear within heard

-- The end

-- the last event of a router that ticked
tick_last : (old new : State) (now : ℕ) (frames : List Frame) → Step old (Tick now) frames new → new.last ≡ now
tick_last old new now frames (Ticked ticks) = ticks.renews.last

module _ (end count : ℕ) (start : Position) (before : start.moment < end) where
  -- the turn at the end ticks at the end, and nothing is done behind it
  last_at_end : (moments : List ℕ) (reports : List Report) (stop : Position) → RunsTurns DoesEvent end count start moments reports stop → end ≤ stop.moment →
      (stop.state.last ≡ end) × (stop.next ≡ count)
  last_at_end moments reports stop Stays le = absurd (omega (arith, before, le))
  last_at_end moments reports stop (Then_begins {more = more} {mid = mid} goes begins) le = grind (arith, common_steps, tick_last)
  last_at_end moments reports stop (Then_listens {reports = rs} {mid = mid} goes listens) le = grind (arith, common_steps, (last_at_end moments rs mid goes (omega (arith, listens.moment, le))))

  -- there nothing is put off
  pub whole_at_end : (moments : List ℕ) (reports : List Report) (stop : Position) (rest : State) → RunsTurns DoesEvent end count start moments reports stop →
      end ≤ stop.moment → IsKeptOf end stop.state rest → stop.state ≡ rest
  whole_at_end moments reports stop rest goes le kept = grind (arith, common_steps, last_at_end)
