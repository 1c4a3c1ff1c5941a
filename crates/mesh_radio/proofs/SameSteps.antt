-- What happens to what is kept of the routers of a network happens to the routers too.
use Rattle.mesh_radio.proofs.Common.{◌≡◌, ℕ, ◌<◌, ◌≤◌, ◌∙◌, List, refl, sym, ap, subst, length, Some, inl, inr, length-set, slice_get, slice_set, State, NetEvent, NetStep, By_delivery, By_tick, By_last_tick, Moves, HasOnlyLastTicks, Traffic, same_at, set_at, set_there, Scene, AreKeptOf, AreSoundStates, net_of, kept_through, step_from, set_here}
use Rattle.mesh_machine.proofs.Soundness.{step_sound}
use Rattle.mesh_radio.proofs.Keeping.{whole_at, rest_at, dues_of, first_of}

-- All routers

module _ (until : ℕ) (wholes rests mids new : List State) (before after : Scene) (event : NetEvent) (kept : AreKeptOf until wholes rests) (still : AreKeptOf until mids new) (sound : AreSoundStates wholes) where
  moves_from : (traffic : Traffic) → Moves (net_of rests before) event traffic (net_of mids after) →
      (reached : List State) × Moves (net_of wholes before) event traffic (net_of reached after) × AreKeptOf until reached new × AreSoundStates reached
  moves_from traffic moves =
      let x = event.router in
      let there = whole_at until wholes rests kept x moves.was moves.stood in
      let here : slice_get mids x ≡ Some moves.is = subst (λ (l : List State). slice_get l x ≡ Some moves.is) (sym moves.routers) (set_here rests x moves.is moves.was moves.stood) in
      let then = rest_at until mids new still x moves.is here in
      let next = step_from until there.0 moves.was _ _ moves.is then.0 there.2 moves.step then.2 in (
        slice_set wholes x next.0,
        record { was = there.0; is = next.0; stood = there.1; step = next.1; routers = refl; sends = moves.sends; scenario = moves.scenario },
        record {
          count = length-set wholes x next.0 ∙ kept.count ∙ sym (ap length moves.routers ∙ length-set rests x moves.is) ∙ still.count;
          each = λ y whole rest at is. elim (set_at wholes x next.0 y whole at) [
            | inl (a, b) ↦ rw (b, same_at new x rest then.0 (rw (← a) is) then.1) next.2
            | inr (a, b) ↦
                let old = rest_at until wholes rests kept y whole b in
                let mid : slice_get mids y ≡ Some old.0 = subst (λ (l : List State). slice_get l y ≡ Some old.0) (sym moves.routers) (set_there rests x moves.is y old.0 a old.1) in
                kept_through until whole old.0 rest old.2 (still.each y old.0 rest mid is)
          ];
        },
        λ y state at. elim (set_at wholes x next.0 y state at) [
          | inl (a, b) ↦ rw b (step_sound there.0 _ _ next.0 (sound x there.0 there.1) next.1)
          | inr (a, b) ↦ sound y state b
        ],
      )

  only_from : HasOnlyLastTicks (net_of rests before) → HasOnlyLastTicks (net_of wholes before)
  only_from only = record { no_frames = only.no_frames; no_ticks = dues_of until wholes rests kept (λ m. before.scenario.end < m) only.no_ticks }

  -- an event that leads from what is kept of routers leads from these
  pub net_step_from : NetStep (net_of rests before) event (net_of mids after) →
      (reached : List State) × NetStep (net_of wholes before) event (net_of reached after) × AreKeptOf until reached new × AreSoundStates reached
  net_step_from (By_delivery delivers) =
      let (reached, moves, are, sounds) = moves_from _ delivers.moves in (
        reached,
        By_delivery (record {
          delivery = delivers.delivery;
          others = delivers.others;
          arc = delivers.arc;
          sender = delivers.sender;
          next = record {
            first = delivers.next.first;
            in_time = delivers.next.in_time;
            before_ticks = dues_of until wholes rests kept (λ m. delivers.delivery.moment ≤ m) delivers.next.before_ticks;
          };
          arc_is = delivers.arc_is;
          sender_is = delivers.sender_is;
          moment = delivers.moment;
          router = delivers.router;
          heard = delivers.heard;
          moves = moves;
          last_ticks = delivers.last_ticks;
        }),
        are,
        sounds,
      )
  net_step_from (By_tick ticks) =
      let (reached, moves, are, sounds) = moves_from _ ticks.moves in (
        reached,
        By_tick (record {
          next = record {
            first = first_of until wholes rests kept event.router event.moment ticks.next.first;
            in_time = ticks.next.in_time;
            before_frames = ticks.next.before_frames;
          };
          heard = ticks.heard;
          moves = moves;
          last_ticks = ticks.last_ticks;
        }),
        are,
        sounds,
      )
  net_step_from (By_last_tick ticks) =
      let (reached, moves, are, sounds) = moves_from _ ticks.moves in (
        reached,
        By_last_tick (record {
          only = only_from ticks.only;
          some = rw kept.count ticks.some;
          moment = ticks.moment;
          router = ticks.router;
          heard = ticks.heard;
          moves = moves;
          last_ticks = ticks.last_ticks;
        }),
        are,
        sounds,
      )
