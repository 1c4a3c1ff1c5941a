-- The events of a network, put together.
use Rattle.mesh_radio.proofs.Common.{common_steps, ◌≡◌, ℕ, ◌+◌, ◌<◌, ◌≤◌, ◌∙◌, List, refl, sym, length, map, arith, subst, All, Option, Some, None, Result, Bool, false, is_err, IfOk, min, slice_get, slice_set, IfSome, MatchOption, option_map, All-weaker, slice_get_within, RadioArc, RouterSettings, Scenario, State, Frame, Event, Hear, IsPacket, IsSendable, Emission, Traffic, Delivery, IsHeardFirst, SendsAll, with_heard, frame_of, traffic_of, same_at, all_turned, NetEvent, Due, Scene, NetState, NetStep, By_delivery, By_tick, By_last_tick, IsFirstDue, IsSender, TicksNext, HasOnlyLastTicks, Moves, Delivers, TicksDue, TicksLast, event_of, frames_of, IsOver, IsOfScenario, IsOfPackets, net_event_of, IsSound, AreRouterStates, HadLastTicks, KeepsDue, IsAfterTick, Lands, TicksOne, Stepped, Happens, IsFlying, IsLeft, IsAirQuiet, IsNextTick, Due_first, At_end, HasNoTick, AllStays, TellsEvent, net_of, arc_ends, first_and_others, others_later, sent_lost}
use Rattle.mesh_radio.specs.declared.traffic.traffic.RadioTraffic.{RadioTraffic as Kept}
use Rattle.std.proofs.lemmas.Result.{IfOk-weaker}
use Rattle.mesh_atoms.specs.declared.addr.Addr4.{Addr4}
use Rattle.mesh_radio.specs.declared.occurrences.Occurrence.{Occurrence}
use Rattle.mesh_radio.specs.declared.scene.Tick.{Tick}
use Rattle.mesh_radio.proofs.Flying.{sent_flying, still_flying}
use Rattle.mesh_radio.proofs.Keeping.{all_kept}
use Rattle.mesh_radio.proofs.Soundness.{all_due, due_from, kept_after, later_routers, one_ended, routers_after, same_count, same_first, still_ended}

pub min_left : (a b c : ℕ) → a ≤ min b c → a ≤ b
min_left a b c h = omega (arith, h)

pub min_right : (a b c : ℕ) → a ≤ min b c → a ≤ c
min_right a b c h = omega (arith, h)

-- the traffic of a scene, of which these are left in the air
abbrev pub left_in_air : Scene → List Delivery → Traffic
left_in_air s others = record { air = others; counts = s.traffic.counts; draws = s.traffic.draws.drawn }

-- the network after an event
abbrev network_after : List State → Scene → Traffic → ℕ → NetState
network_after new s traffic last_ticks = record { scenario = s.scenario; routers = new; traffic = traffic; last_ticks = last_ticks }

-- What happens

moved : {until : ℕ} {old new : List State} {Change : State → State → Type 0} (s : Scene) (x now last_ticks : ℕ) (event : NetEvent) (before then : Traffic) → event.router ≡ x → event.moment ≡ now →
    (step : Stepped until old new x now (event_of event) (frames_of event) Change) → SendsAll s.scenario now x event.sent before then →
    Moves (net_of old s) event before (network_after (slice_set old x step.whole) s then last_ticks)
moved s x now last_ticks event before then router moment step sends = record {
  was = step.was;
  is = step.whole;
  stood = rw router step.stood;
  step = step.step;
  routers = rw router refl;
  sends = rw (router, moment) sends;
  scenario = refl;
}

pub heard : (until : ℕ) (old new : List State) (s : Scene) (d : Delivery) (others : List Delivery) (event : NetEvent) (then : Traffic) → IsSound old s → IsHeardFirst s.traffic.air d others → d.moment ≤ min s.due.moment s.scenario.end →
    (lands : Lands until s.scenario old new d event (left_in_air s others) then) → Delivers (net_of old s) event (network_after (slice_set old lands.arc.to lands.stepped.whole) s then s.last_ticks)
heard until old new s d others event then sound first soon lands =
    let ahead : d.moment ≤ s.due.moment = min_left d.moment s.due.moment s.scenario.end soon in
    record {
      delivery = d;
      others = others;
      arc = lands.arc;
      sender = lands.sender;
      next = record {
        first = first;
        in_time = min_right d.moment s.due.moment s.scenario.end soon;
        before_ticks = all_due (λ m. d.moment ≤ m) old (λ y t at. let no = sound.due.no_earlier y t at in omega (arith, no, ahead));
      };
      arc_is = lands.arc_is;
      sender_is = lands.sender_is;
      moment = lands.moment;
      router = lands.router;
      heard = lands.heard;
      moves = moved s lands.arc.to d.moment s.last_ticks event _ then lands.router lands.moment lands.stepped lands.sends;
      last_ticks = refl;
    }

pub ticked : (until : ℕ) (old new : List State) (s : Scene) (event : NetEvent) (then : Traffic) → TicksNext (net_of old s) s.due.router s.due.moment →
    (ticks : TicksOne until s.scenario old new s.due.router s.due.moment event (traffic_of s.traffic) then) → TicksDue (net_of old s) event (network_after (slice_set old s.due.router ticks.stepped.whole) s then s.last_ticks)
ticked until old new s event then next ticks = record {
  next = rw (ticks.router, ticks.moment) next;
  heard = ticks.heard;
  moves = moved s s.due.router s.due.moment s.last_ticks event (traffic_of s.traffic) then ticks.router ticks.moment ticks.stepped ticks.sends;
  last_ticks = refl;
}

pub ended : (until : ℕ) (old new : List State) (s : Scene) (event : NetEvent) (then : Traffic) → HasOnlyLastTicks (net_of old s) → s.last_ticks < length old →
    (ticks : TicksOne until s.scenario old new s.last_ticks s.scenario.end event (traffic_of s.traffic) then) → TicksLast (net_of old s) event (network_after (slice_set old s.last_ticks ticks.stepped.whole) s then (s.last_ticks + 1))
ended until old new s event then only some ticks = record {
  only = only;
  some = some;
  moment = ticks.moment;
  router = ticks.router;
  heard = ticks.heard;
  moves = moved s s.last_ticks s.scenario.end (s.last_ticks + 1) event (traffic_of s.traffic) then ticks.router ticks.moment ticks.stepped ticks.sends;
  last_ticks = refl;
}

-- What an event names

module _ (s : Scenario) (until earlier : ℕ) (old new : List State) (event : NetEvent) (before then : Traffic) (routers : AreRouterStates s earlier old) where
  of_scenario : (x now : ℕ) (Change : State → State → Type 0) → event.router ≡ x → (step : Stepped until old new x now (event_of event) (frames_of event) Change) → SendsAll s now x event.sent before then →
      IfSome event.heard (λ h. h.0 < length step.was.settings.interfaces) → IsOfScenario s event
  of_scenario x now Change router step sends heard = record {
    settings = step.was.settings;
    router = rw router (routers.settings x step.was step.stood);
    heard = heard;
    sent = All-weaker (λ (e : Emission). IsSendable step.was.settings (frame_of e)) (λ (e : Emission). e.iface < length step.was.settings.interfaces) (λ e may. may.iface) event.sent
        (all_turned (IsSendable step.was.settings) frame_of event.sent step.sendable);
    lost = sent_lost s now x event.sent before then sends;
  }

  pub tick_of_scenario : (x m : ℕ) → TicksOne until s old new x m event before then → IsOfScenario s event
  tick_of_scenario x m ticks = of_scenario x m _ ticks.router ticks.stepped ticks.sends (rw ticks.heard tt)

of_packets : (settings : RouterSettings) (event : NetEvent) → All (IsSendable settings) (frames_of event) → IfSome event.heard (λ h. IsPacket h.2) → IsOfPackets event
of_packets settings event may heard = record {
  heard = heard;
  sent = All-weaker (λ (e : Emission). IsSendable settings (frame_of e)) (λ (e : Emission). IsPacket e.frame) (λ e is. is.packet) event.sent (all_turned (IsSendable settings) frame_of event.sent may);
}

module _ (s : Scenario) (until : ℕ) (old new : List State) (event : NetEvent) where
  pub landing_of_scenario : (earlier : ℕ) (d : Delivery) (before then : Traffic) → AreRouterStates s earlier old → Lands until s old new d event before then → IsOfScenario s event
  landing_of_scenario earlier d before then routers lands =
      let to = (arc_ends s d.arc lands.arc lands.arc_is).1 in
      let was = lands.stepped.was in
      let at : slice_get s.routers lands.arc.to ≡ Some was.settings = routers.settings lands.arc.to was lands.stepped.stood in
      let below : lands.arc.to_iface < length was.settings.interfaces = subst (λ (r : RouterSettings). lands.arc.to_iface < length r.interfaces) (same_at s.routers lands.arc.to to.router was.settings to.stands at) to.iface in
      of_scenario s until earlier old new event (with_heard before before.air) then routers lands.arc.to d.moment _ lands.router lands.stepped lands.sends (rw lands.heard below)

  pub landing_of_packets : (d : Delivery) (before then : Traffic) → IsPacket d.frame → Lands until s old new d event before then → IsOfPackets event
  landing_of_packets d before then packet lands = of_packets lands.stepped.was.settings event lands.stepped.sendable (rw lands.heard packet)

  pub tick_of_packets : (x m : ℕ) (before then : Traffic) → TicksOne until s old new x m event before then → IsOfPackets event
  tick_of_packets x m before then ticks = of_packets ticks.stepped.was.settings event ticks.stepped.sendable (rw ticks.heard tt)

-- A frame is heard

-- what is told where a router has heard a frame
pub lands : (until : ℕ) (s : Scenario) (old new : List State) (d : Delivery) (arc : RadioArc) (sender : Addr4) (frames : List Frame) (sent : List Emission) (before then : Traffic) → slice_get s.arcs d.arc ≡ Some arc → IsSender s.routers arc sender →
    Stepped until old new arc.to d.moment (Hear (record { now = d.moment; iface = arc.to_iface; sender = sender }) d.frame) frames KeepsDue → map frame_of sent ≡ frames → SendsAll s d.moment arc.to sent (with_heard before before.air) then →
    Lands until s old new d (record { moment = d.moment; router = arc.to; heard = Some (arc.to_iface, sender, d.frame); sent = sent }) before then
lands until s old new d arc sender frames sent before then arc_is sender_is stepped are sends = record {
  arc = arc;
  sender = sender;
  arc_is = arc_is;
  sender_is = sender_is;
  moment = refl;
  router = refl;
  heard = refl;
  stepped = subst (λ (fs : List Frame). Stepped until old new arc.to d.moment (Hear (record { now = d.moment; iface = arc.to_iface; sender = sender }) d.frame) fs KeepsDue) (sym are) stepped;
  sends = sends;
}

-- the network after it
pub hears_next : (until : ℕ) (s : Scene) (old new : List State) (d : Delivery) (others : List Delivery) (event : NetEvent) (outbox : List Frame) (then : Kept) → IsSound old s → IsHeardFirst s.traffic.air d others →
    d.moment ≤ min s.due.moment s.scenario.end → Lands until s.scenario old new d event (left_in_air s others) (traffic_of then) → then.draws.seed ≡ s.traffic.draws.seed →
    Happens until old s event new (record s { outbox = outbox; traffic = then; now = d.moment })
hears_next until s old new d others event outbox then sound first soon lands seed =
    let parts = first_and_others (IsFlying s.scenario s.now) s.traffic.air d others first sound.flying in
    let flying = still_flying s.scenario s.now d.moment others parts.1 (others_later s.traffic.air d others first) in
    record {
      reached = slice_set old lands.arc.to lands.stepped.whole;
      step = By_delivery (heard until old new s d others event (traffic_of then) sound first soon lands);
      rest = kept_after lands.stepped;
      named = landing_of_scenario s.scenario until old new event s.now d _ _ sound.are_routers lands;
      packets = landing_of_packets s.scenario until old new event d _ _ parts.0.packet lands;
      sound = record {
        ways = sound.ways;
        are_routers = routers_after lands.stepped s.scenario (later_routers s.scenario s.now d.moment old parts.0.later sound.are_routers);
        seed = seed ∙ sound.seed;
        flying = sent_flying s.scenario d.moment lands.arc.to lands.stepped.was.settings event.sent (with_heard (left_in_air s others) others) (traffic_of then) lands.stepped.sendable lands.sends flying;
        due = same_first lands.stepped _ _ sound.due;
        due_later = min_left d.moment s.due.moment s.scenario.end soon;
        in_time = min_right d.moment s.due.moment s.scenario.end soon;
        few = rw (same_count lands.stepped) sound.few;
        ended = still_ended lands.stepped s.scenario.end s.last_ticks sound.ended;
      };
    }

-- A router ticks

module _ (s : Scene) (old : List State) (sound : IsSound old s) (quiet : IsAirQuiet s) where
  due_next : s.due.moment ≤ s.scenario.end → TicksNext (net_of old s) s.due.router s.due.moment
  due_next soon = grind (arith, common_steps)

  only_last_ticks : s.scenario.end < s.due.moment → HasOnlyLastTicks (net_of old s)
  only_last_ticks late = record {
    no_frames = λ k d lt. let later = quiet k d lt in omega (arith, late, later);
    no_ticks = all_due (λ m. s.scenario.end < m) old (λ y t at. let no = sound.due.no_earlier y t at in omega (arith, no, late));
  }

  -- a tick that is next

  pub tick_within : (tick : Tick) → IsNextTick s tick → tick.router < length s.scenario.routers
  tick_within tick h1 = grind (arith, common_steps, slice_get_within)

  pub tick_in_time : (tick : Tick) → IsNextTick s tick → tick.moment ≤ s.scenario.end
  tick_in_time tick h1 = grind (arith, common_steps)

  pub tick_later : (tick : Tick) → IsNextTick s tick → s.now ≤ tick.moment
  tick_later tick h1 = grind (arith, common_steps)

  -- it is no later than the tick that is due first
  tick_ahead : (tick : Tick) → IsNextTick s tick → tick.moment ≤ s.due.moment
  tick_ahead tick h1 = grind (arith, common_steps)

  tick_few : (tick : Tick) → IsNextTick s tick → tick.last_ticks ≤ length old
  tick_few tick h1 = grind (arith, common_steps)

  tick_step : (until : ℕ) (new : List State) (event : NetEvent) (then : Traffic) (tick : Tick) → IsNextTick s tick → (ticks : TicksOne until s.scenario old new tick.router tick.moment event (traffic_of s.traffic) then) →
      NetStep (net_of old s) event (network_after (slice_set old tick.router ticks.stepped.whole) s then tick.last_ticks)
  tick_step until new event then tick (Due_first soon is) =
      subst (λ (t : Tick). (ticks : TicksOne until s.scenario old new t.router t.moment event (traffic_of s.traffic) then) → NetStep (net_of old s) event (network_after (slice_set old t.router ticks.stepped.whole) s then t.last_ticks)) (sym is)
      (λ due. By_tick (ticked until old new s event then (due_next soon) due))
  tick_step until new event then tick (At_end late some is) =
      let count = sound.are_routers.count in
      subst (λ (t : Tick). (ticks : TicksOne until s.scenario old new t.router t.moment event (traffic_of s.traffic) then) → NetStep (net_of old s) event (network_after (slice_set old t.router ticks.stepped.whole) s then t.last_ticks)) (sym is)
      (λ due. By_last_tick (ended until old new s event then (only_last_ticks late) (omega (arith, count, some)) due))

  -- the routers that had their tick at the end
  tick_ended : (until : ℕ) (new : List State) (event : Event) (frames : List Frame) (tick : Tick) → IsNextTick s tick → Stepped until old new tick.router tick.moment event frames (IsAfterTick tick.moment) →
      HadLastTicks s.scenario.end tick.last_ticks new
  tick_ended until new event frames tick (Due_first soon is) = λ step. subst (λ (t : Tick). HadLastTicks s.scenario.end t.last_ticks new) (sym is) (still_ended step s.scenario.end s.last_ticks sound.ended)
  tick_ended until new event frames tick (At_end late some is) =
      subst (λ (t : Tick). Stepped until old new t.router t.moment event frames (IsAfterTick t.moment) → HadLastTicks s.scenario.end t.last_ticks new) (sym is) (λ step. one_ended step sound.ended)

  -- the network after it
  pub ticks_next : (until : ℕ) (new : List State) (event : NetEvent) (outbox : List Frame) (then : Kept) (due : Due) (tick : Tick) → IsNextTick s tick → TicksOne until s.scenario old new tick.router tick.moment event (traffic_of s.traffic) (traffic_of then) →
      then.draws.seed ≡ s.traffic.draws.seed → IsFirstDue new due.router due.moment →
      Happens until old s event new (record s { outbox = outbox; traffic = then; due = due; last_ticks = tick.last_ticks; now = tick.moment })
  ticks_next until new event outbox then due tick next ticks seed first =
      let ahead = tick_ahead tick next in
      let in_time = tick_in_time tick next in
      let later = tick_later tick next in
      let flying = still_flying s.scenario s.now tick.moment s.traffic.air sound.flying (λ k d lt. let late = quiet k d lt in omega (arith, late, ahead, in_time)) in
      record {
        reached = slice_set old tick.router ticks.stepped.whole;
        step = tick_step until new event (traffic_of then) tick next ticks;
        rest = kept_after ticks.stepped;
        named = tick_of_scenario s.scenario until s.now old new event _ _ sound.are_routers _ _ ticks;
        packets = tick_of_packets s.scenario until old new event _ _ _ _ ticks;
        sound = record {
          ways = sound.ways;
          are_routers = routers_after ticks.stepped s.scenario (later_routers s.scenario s.now tick.moment old later sound.are_routers);
          seed = seed ∙ sound.seed;
          flying = sent_flying s.scenario tick.moment tick.router ticks.stepped.was.settings event.sent (traffic_of s.traffic) (traffic_of then) ticks.stepped.sendable ticks.sends flying;
          due = first;
          due_later = due_from _ _ s.due.moment ticks.stepped sound.due.no_earlier ahead first;
          in_time = in_time;
          few = rw (same_count ticks.stepped) (tick_few tick next);
          ended = tick_ended until new _ _ tick next ticks.stepped;
        };
      }

  -- nothing at all is left
  pub nothing_left : HasNoTick s → IsLeft old s old s
  nothing_left h0 = grind (arith, common_steps, only_last_ticks)

-- What is told of a network after its next event, if there is one

-- where it stayed as it was before
pub told_since : {E : Type 0} (until : ℕ) (old mid new : List State) (before between after : Scene) (r : Result (Option Occurrence) E) → AllStays old before mid between →
    IfOk r (λ e. TellsEvent until mid between new after (option_map net_event_of e)) → IfOk r (λ e. TellsEvent until old before new after (option_map net_event_of e))
told_since until old mid new before between after r stays told = grind (arith, common_steps)

-- and is sound
pub sound_since : (old mid : List State) (before between : Scene) → AllStays old before mid between → IsSound old before → IsSound mid between
sound_since old mid before between stays sound = grind (arith, common_steps)

pub quiet_since : (old mid : List State) (before between : Scene) → AllStays old before mid between → IsAirQuiet between
quiet_since old mid before between stays = subst IsAirQuiet (sym stays.scene) stays.quiet

-- where all of each router is kept
module _ {E : Type 0} (old new : List State) (before after : Scene) (r : Result (Option NetEvent) E) (told : IfOk r (TellsEvent 0 old before new after)) where
  pub told_step : (was : NetState) → net_of old before ≡ was → IfOk r (λ e. MatchOption e (IsOver was × (net_of new after ≡ was)) (λ event. NetStep was event (net_of new after)))
  told_step was is = subst (λ (n : NetState). IfOk r (λ e. MatchOption e (IsOver n × (net_of new after ≡ n)) (λ event. NetStep n event (net_of new after)))) is (IfOk-weaker r (TellsEvent 0 old before new after) _ one told)
    where
      one : (e : Option NetEvent) → TellsEvent 0 old before new after e → MatchOption e (IsOver (net_of old before) × (net_of new after ≡ net_of old before)) (λ event. NetStep (net_of old before) event (net_of new after))
      one None h = h.over
      one (Some event) h = subst (λ (states : List State). NetStep (net_of old before) event (net_of states after)) (all_kept 0 h.reached new h.rest (λ x t at. omega arith)) h.step

  pub told_named : (was : NetState) → net_of old before ≡ was → IfOk r (λ e. IfSome e (IsOfScenario was.scenario))
  told_named was is = grind (arith, common_steps)

  pub told_packets : IfOk r (λ e. IfSome e IsOfPackets)
  told_packets = grind (arith, common_steps)

-- a network that isn't spent is sound
pub sound_unless_spent : {E : Type 0} (until : ℕ) (old new : List State) (before after : Scene) (r : Result (Option NetEvent) E) (spent : Bool) → IfOk r (TellsEvent until old before new after) → spent ≡ is_err r → spent ≡ false → IsSound new after
sound_unless_spent until old new before after r spent told says whole = grind (arith, common_steps)
