-- What is kept of a router, and its steps: a step looks at no relays and routes of the state before it, so that what happens to what is kept of a
-- router happens to it too.
use Rattle.mesh_core.proofs.Common.{common_steps, ◌≡◌, ℕ, List, refl, sym, ap, subst, arith, State, Bases, Relays, Route, Arrival, Fate, Frame, Event, Step, Heard_frame, Ticked, HearsPacket, TicksAt, due, Renews, IsKeptOf}
use Rattle.mesh_machine.specs.declared.fate.Heard.TheVariants as heard
use Rattle.mesh_machine.specs.Sending.{SendsHellos, Hellos_early, Hellos_due, SendsTcs, Tcs_early, Tcs_silent, Tcs_due}

-- all of a router is kept of it
pub kept_whole : (until : ℕ) (s : State) → IsKeptOf until s s
kept_whole until s = record { same = refl; from_then = λ late. refl }

-- what is kept of what is kept of a router
pub kept_through : (until : ℕ) (whole mid rest : State) → IsKeptOf until whole mid → IsKeptOf until mid rest → IsKeptOf until whole rest
kept_through until whole mid rest first second = grind (arith, common_steps)

-- the due moment is kept
pub kept_due : (until : ℕ) (whole rest : State) → IsKeptOf until whole rest → due whole ≡ due rest
kept_due until whole rest kept = ap due kept.same

module _ (rest : State) (relays : Relays) (routes : List Route) where
  -- the same but for its relays and routes
  abbrev whole : State
  whole = record rest { relays = relays; routes = routes }

  renews_from : (now : ℕ) (bases : Bases) (new : State) → Renews rest now bases new → Renews whole now bases new
  renews_from now bases new h = grind (arith, common_steps)

  hears_from : (arrival : Arrival) (bytes : List ℕ) (fates : List Fate) (sent : List Frame) (new : State) → HearsPacket rest arrival bytes fates sent new → HearsPacket whole arrival bytes fates sent new
  hears_from arrival bytes fates sent new h = grind (arith, common_steps, renews_from)

  hellos_from : (new : State) (sent : List Frame) → SendsHellos rest new sent → SendsHellos whole new sent
  hellos_from new sent (Hellos_early early next) = Hellos_early early next
  hellos_from new sent (Hellos_due late next are) = Hellos_due late next are

  tcs_from : (new : State) (sent : List Frame) → SendsTcs rest new sent → SendsTcs whole new sent
  tcs_from new sent (Tcs_early early next sequence) = Tcs_early early next sequence
  tcs_from new sent (Tcs_silent late next nothing sequence) = Tcs_silent late next nothing sequence
  tcs_from new sent (Tcs_due late next has parts are validity is sequence sends) = Tcs_due late next has parts are validity is sequence sends

  ticks_from : (now : ℕ) (sent : List Frame) (new : State) → TicksAt rest now sent new → TicksAt whole now sent new
  ticks_from now sent new h = grind (arith, common_steps, renews_from, hellos_from, tcs_from)

-- a step from what is kept of a router is one from the router: what is kept of the state to which the one leads is kept of the other's
pub step_from : (until : ℕ) (whole rest : State) (event : Event) (sent : List Frame) (mid new : State) → IsKeptOf until whole rest → Step rest event sent mid → IsKeptOf until mid new →
    (next : State) × Step whole event sent next × IsKeptOf until next new
step_from until whole rest event sent mid new kept (Heard_frame {arrival} {bytes} {sent = frames} {new = after} (heard.Refused refusal) hears) still =
    (whole, Heard_frame (heard.Refused refusal) (hears.0, hears.1, refl), kept_through until whole rest new kept (subst (λ (s : State). IsKeptOf until s new) hears.2 still))
step_from until whole rest event sent mid new kept (Heard_frame {arrival} {bytes} {sent = frames} {new = after} (heard.Taken fates) hears) still =
    (mid, Heard_frame (heard.Taken fates) (subst (λ (s : State). HearsPacket s arrival bytes fates frames after) (sym kept.same) (hears_from rest whole.relays whole.routes arrival bytes fates frames after hears)), still)
step_from until whole rest event sent mid new kept (Ticked {now} ticks) still =
    (mid, Ticked (subst (λ (s : State). TicksAt s now sent mid) (sym kept.same) (ticks_from rest whole.relays whole.routes now sent mid ticks)), still)
