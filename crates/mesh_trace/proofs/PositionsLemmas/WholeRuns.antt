-- The trace of each run from its opening to its end is whole.
use Rattle.mesh_trace.proofs.Common.{arith, common_steps, ◌≡◌, ℕ, ◌+◌, List, [], ◌∷◌, ◌++◌, map, Some, None, Option, refl, sym, ap, ◌∙◌, subst, slice_get, slice_set, IfSome, flat_map, append-nil, Addr4, RouterSettings, Scenario, State, FirstFault, Spells, not_both, Arrival, Frame, Event, Hear, Tick, Step, Heard_frame, Ticked, Hears, HearsPacket, TicksAt, IsPacket, Emission, Traffic, SendsAll, frame_of, with_heard, set_here, same_at, face_name, NetEvent, happened_line, event_line, heard_line, relays_lines, sent_lines, event_text, IsEventText, Of_taken, Of_refused, NetState, NetStep, Moves, Delivers, happening, event_of, frames_of, IsTraced, Traces, Refused, RunsAreWhole, lines_of, TracePosition, with_state, with_traffic, To_event, LeadsBy}
use Rattle.mesh_texts.specs.machine.declared.fate.Heard.{Heard}
use Rattle.mesh_texts.specs.machine.declared.fate.Heard.TheVariants as heard
use Rattle.mesh_texts.specs.machine.Net.{By_delivery, By_tick, By_last_tick}
use Rattle.mesh_trace.specs.Positions.Events as opens
use Rattle.mesh_trace.proofs.PositionsLemmas.EventWalks.{tick_walk, hear_walk}
use Rattle.mesh_trace.proofs.PositionsLemmas.Leading.{at}
use Rattle.mesh_trace.proofs.PositionsLemmas.TextLines.{heard_one}
use Rattle.mesh_trace.proofs.PositionsLemmas.Walks.{Walks, walks_nowhere, walks_one, walks_on, walks_as}

-- ---- a step by its event

step_ticks : (was : State) (event : Event) (sent : List Frame) (is : State) (now : ℕ) → Step was event sent is → event ≡ Tick now → TicksAt was now sent is
step_ticks was event sent is now (Heard_frame answer hears) same = absurd cc
step_ticks was event sent is now (Ticked {now = n} ticks) same = let at_now : n ≡ now = cc in subst (λ (m : ℕ). TicksAt was m sent is) at_now ticks

record HearsSo (was : State) (arrival : Arrival) (bytes : List ℕ) (sent : List Frame) (is : State) : Type 0 where
  answer : Heard
  hears : Hears was arrival bytes answer sent is

step_hears : (was : State) (event : Event) (sent : List Frame) (is : State) (arrival : Arrival) (bytes : List ℕ) → Step was event sent is → event ≡ Hear arrival bytes → HearsSo was arrival bytes sent is
step_hears was event sent is arrival bytes h6 same = grind (arith, common_steps)

-- ---- the text of an event by its parts

abbrev pub told : Scenario → ℕ → Option (ℕ × Addr4 × List ℕ) → RouterSettings → State → ℕ → List Emission → List ℕ
told s moment what r after last es = (happened_line moment r what ++ relays_lines after) ++ flat_map (sent_lines s last after.settings) es

pub told_so : (s : Scenario) (event : NetEvent) (after : State) → event_text s event after ≡ told s event.moment event.heard after.settings after event.moment event.sent
unfolding event_text event_line
told_so s event after = refl

pub told_same : (s s' : Scenario) (moment : ℕ) (what what' : Option (ℕ × Addr4 × List ℕ)) (r r' : RouterSettings) (a a' : State) (n n' : ℕ) (es : List Emission) → s ≡ s' → what ≡ what' → r ≡ r' → a ≡ a' → n ≡ n' →
    told s moment what r a n es ≡ told s' moment what' r' a' n' es
told_same s s' moment what what' r r' a a' n n' es p q t u v = grind (arith, common_steps)

pub line_so : (event : NetEvent) (r : RouterSettings) → event_line event r ≡ happened_line event.moment r event.heard
unfolding event_line
line_so event r = refl

pub line_same : (n n' : ℕ) (what what' : Option (ℕ × Addr4 × List ℕ)) (r r' : RouterSettings) → n ≡ n' → what ≡ what' → r ≡ r' → happened_line n r what ≡ happened_line n' r' what'
line_same n n' what what' r r' p q t = grind (arith, common_steps)

nothing_sent : (net : NetState) (now x : ℕ) (es : List Emission) (before after : Traffic) → map frame_of es ≡ [] → SendsAll net.scenario now x es before after → after ≡ before
nothing_sent net now x [] before after none sends = sends
nothing_sent net now x (e ∷ es) before after none sends = absurd cc

net_is : (m : NetState) (s : Scenario) (r : List State) (l : ℕ) → m.scenario ≡ s → m.routers ≡ r → m.last_ticks ≡ l → record { scenario = s; routers = r; traffic = m.traffic; last_ticks = l } ≡ m
net_is m s r l a b c = rw (← a, ← b, ← c) refl

-- the router of the event, after it
after_is : (old mid : NetState) (event : NetEvent) (before : Traffic) (m : Moves old event before mid) (after : State) → slice_get mid.routers event.router ≡ Some after → after ≡ m.is
after_is old mid event before m after at_after = grind (arith, common_steps, same_at, set_here)

-- ---- ticks

ticked_walk : (old mid : NetState) (event : NetEvent) (text : List ℕ) (x0 l : ℕ) (m : Moves old event old.traffic mid) → event.heard ≡ None → mid.last_ticks ≡ l → IsTraced mid event text →
    ((line : List ℕ) (p : TracePosition) → opens.OpensTick old event.router event.moment l line p → opens.OpensEvent old line p) →
    Walks (at old x0 []) (at mid event.router []) text
ticked_walk old mid event text x0 l m silent last (after, at_after, Of_refused refused is) may = grind (arith, common_steps)
ticked_walk old mid event text x0 l m silent last (after, at_after, Of_taken taken is) may =
    let ticks = step_ticks m.was (event_of event) (frames_of event) m.is event.moment m.step (ap (happening event.moment) silent) in
    let same = after_is old mid event old.traffic m after at_after in
    let settings : after.settings ≡ m.was.settings = ap (λ (s : State). s.settings) same ∙ ticks.renews.settings in
    walks_as (at old x0 []) _ (at mid event.router []) _ text (ap (λ (n : NetState). at n event.router []) (net_is mid old.scenario (slice_set old.routers event.router m.is) l m.scenario m.routers last))
    (sym (is ∙ (told_so mid.scenario event after ∙ told_same mid.scenario old.scenario event.moment event.heard None after.settings m.was.settings after m.is event.moment m.is.last event.sent
    m.scenario silent settings same (sym ticks.renews.last))))
    (tick_walk old x0 event.router event.moment l m.was m.is (frames_of event) event.sent mid.traffic m.stood ticks refl m.sends may)

-- ---- deliveries

abbrev frame_heard : Option (ℕ × Addr4 × List ℕ) → List ℕ
frame_heard None = []
frame_heard (Some h) = h.2

packet_apart : (frame : List ℕ) (place reason : ℕ) → IsPacket frame → FirstFault frame place reason → ⊥
packet_apart frame place reason (packet, spans, spelled) fault = not_both frame packet spans place reason spelled fault

not_taken : (event : NetEvent) (iface : ℕ) (sender : Addr4) (frame : List ℕ) (place reason : ℕ) → event.heard ≡ Some (iface, sender, frame) →
    IfSome event.heard (λ h. IsPacket h.2) → FirstFault frame place reason → ⊥
not_taken event iface sender frame place reason same whole fault = grind (arith, common_steps, packet_apart)

heard_walk : (old mid : NetState) (event : NetEvent) (text : List ℕ) (x0 : ℕ) → Delivers old event mid → IsTraced mid event text →
    Walks (at old x0 []) (at mid event.router []) text
heard_walk old mid event text x0 d (after, at_after, is_text) =
    let m = d.moves in
    let arrival : Arrival = record { now = event.moment; iface = d.arc.to_iface; sender = d.sender } in
    let so = step_hears m.was (event_of event) (frames_of event) m.is arrival d.delivery.frame m.step (ap (happening event.moment) d.heard) in
    by so.answer so.hears
  where
    same : after ≡ d.moves.is
    same = after_is old mid event (with_heard old.traffic d.others) d.moves after at_after

    stood : slice_get old.routers d.arc.to ≡ Some d.moves.was
    stood = subst (λ (x : ℕ). slice_get old.routers x ≡ Some d.moves.was) d.router d.moves.stood

    sends : SendsAll old.scenario d.delivery.moment d.arc.to event.sent (with_heard old.traffic d.others) mid.traffic
    sends = subst (λ (n : ℕ). SendsAll old.scenario n d.arc.to event.sent (with_heard old.traffic d.others) mid.traffic) d.moment
        (subst (λ (x : ℕ). SendsAll old.scenario event.moment x event.sent (with_heard old.traffic d.others) mid.traffic) d.router d.moves.sends)

    end : at (record old { routers = slice_set old.routers d.arc.to d.moves.is; traffic = mid.traffic }) d.arc.to [] ≡ at mid event.router []
    end = subst (λ (x : ℕ). at (record old { routers = slice_set old.routers x d.moves.is; traffic = mid.traffic }) x [] ≡ at mid event.router []) d.router
        (ap (λ (n : NetState). at n event.router []) (net_is mid old.scenario (slice_set old.routers event.router d.moves.is) old.last_ticks d.moves.scenario d.moves.routers d.last_ticks))

    by : (answer : Heard) → Hears d.moves.was (record { now = event.moment; iface = d.arc.to_iface; sender = d.sender }) d.delivery.frame answer (frames_of event) d.moves.is → Walks (at old x0 []) (at mid event.router []) text
    by (heard.Taken fates) hears = taken is_text where
      taken : IsEventText mid.scenario event after text → Walks (at old x0 []) (at mid event.router []) text
      taken (Of_refused refused is) =
          absurd (let whole : Some (d.arc.to_iface, d.sender, d.delivery.frame) ≡ Some (refused.iface, refused.sender, refused.frame) = sym d.heard ∙ refused.heard in
          let frames : d.delivery.frame ≡ refused.frame = ap frame_heard whole in
          not_both refused.frame hears.packet hears.spans refused.place refused.reason (subst (λ (l : List ℕ). Spells hears.packet hears.spans l) frames hears.spelled) refused.fault)
      taken (Of_taken whole is) =
          let at_moment = subst (λ (n : ℕ). HearsPacket d.moves.was (record { now = n; iface = d.arc.to_iface; sender = d.sender }) d.delivery.frame fates (frames_of event) d.moves.is) d.moment hears in
          let settings : after.settings ≡ d.moves.was.settings = ap (λ (s : State). s.settings) same ∙ hears.renews.settings in
          walks_as (at old x0 []) _ (at mid event.router []) _ text end
          (sym (is ∙ (told_so mid.scenario event after
          ∙ (told_same mid.scenario old.scenario event.moment event.heard (Some (d.arc.to_iface, d.sender, d.delivery.frame)) after.settings d.moves.was.settings after d.moves.is event.moment d.moves.is.last event.sent
          d.moves.scenario d.heard settings same (sym hears.renews.last)
          ∙ ap (λ (n : ℕ). told old.scenario n (Some (d.arc.to_iface, d.sender, d.delivery.frame)) d.moves.was.settings d.moves.is d.moves.is.last event.sent) d.moment))))
          (hear_walk old x0 d.delivery d.others d.arc d.sender d.moves.was d.moves.is fates event.sent mid.traffic d.next d.arc_is d.sender_is stood at_moment sends)
    by (heard.Refused refusal) (fault, none, unchanged) = refused is_text where
      refused : IsEventText mid.scenario event after text → Walks (at old x0 []) (at mid event.router []) text
      refused (Of_taken taken is) = absurd (not_taken event d.arc.to_iface d.sender d.delivery.frame refusal.place refusal.reason d.heard taken fault)
      refused (Of_refused r is) =
          let line = heard_line d.delivery.moment d.moves.was.settings.name (face_name d.moves.was.settings.interfaces d.arc.to_iface) d.sender d.delivery.frame in
          let traffic : mid.traffic ≡ with_heard old.traffic d.others = nothing_sent old d.delivery.moment d.arc.to event.sent (with_heard old.traffic d.others) mid.traffic none sends in
          let settings : after.settings ≡ d.moves.was.settings = ap (λ (s : State). s.settings) (same ∙ unchanged) in
          walks_as (at old x0 []) (at (with_traffic (with_state old d.arc.to d.moves.was) (with_heard old.traffic d.others)) d.arc.to []) (at mid event.router []) line text
          (ap (λ (t : Traffic). at (record old { routers = slice_set old.routers d.arc.to d.moves.was; traffic = t }) d.arc.to []) (sym traffic)
          ∙ (ap (λ (s : State). at (record old { routers = slice_set old.routers d.arc.to s; traffic = mid.traffic }) d.arc.to []) (sym unchanged) ∙ end))
          (sym (is ∙ (line_so event after.settings ∙ line_same event.moment d.delivery.moment event.heard (Some (d.arc.to_iface, d.sender, d.delivery.frame)) after.settings d.moves.was.settings d.moment d.heard settings)))
          (walks_one (at old x0 []) _ line (heard_one d.delivery.moment d.moves.was.settings d.arc.to_iface d.sender d.delivery.frame)
          (λ line told. To_event refl (opens.By_delivery (record {
            delivery = d.delivery;
            others = d.others;
            arc = d.arc;
            sender = d.sender;
            next = d.next;
            arc_is = d.arc_is;
            sender_is = d.sender_is;
            was = d.moves.was;
            stands = stood;
            line_is = told;
            is = d.moves.was;
            left = [];
            hears = Refused refusal.place refusal.reason fault;
            leads = refl;
          }))))

-- ---- a run

pub step_walk : (old mid : NetState) (event : NetEvent) (text : List ℕ) (x0 : ℕ) → NetStep old event mid → IsTraced mid event text →
    Walks (at old x0 []) (at mid event.router []) text
step_walk old mid event text x0 (By_delivery d) traced = heard_walk old mid event text x0 d traced
step_walk old mid event text x0 (By_tick h) traced =
    ticked_walk old mid event text x0 old.last_ticks h.moves h.heard h.last_ticks traced (λ line p o. opens.By_tick event.router event.moment h.next o)
step_walk old mid event text x0 (By_last_tick h) traced = grind (arith, common_steps, ticked_walk)

record Arrives (old : NetState) (x0 : ℕ) (new : NetState) (text : List ℕ) : Type 0 where
  router : ℕ
  walks : Walks (at old x0 []) (at new router []) text

traces_walk : (old : NetState) (events : List NetEvent) (new : NetState) (text : List ℕ) (x0 : ℕ) → Traces old events new text → Arrives old x0 new text
traces_walk old [] new text x0 (same, none) = record {
  router = x0;
  walks = walks_as (at old x0 []) (at old x0 []) (at new x0 []) [] text (ap (λ (n : NetState). at n x0 []) (sym same)) (sym none) (walks_nowhere (at old x0 []));
}
traces_walk old (event ∷ events) new text x0 (mid, step, first, rest, traced, more, whole) =
    let here = step_walk old mid event first x0 step traced in
    let there = traces_walk mid events new rest event.router more in
    record {
      router = there.router;
      walks = subst (λ (t : List ℕ). Walks (at old x0 []) (at new there.router []) t) (sym whole) (walks_on (at old x0 []) (at mid event.router []) (at new there.router []) first rest here there.walks);
    }

pub runs_are_whole : RunsAreWhole
runs_are_whole s run text traces =
    let arrives = traces_walk run.opening run.events run.final text 0 traces in
    let lines : lines_of text ≡ arrives.walks.lines = ap lines_of (sym (append-nil text)) ∙ (arrives.walks.are [] ∙ append-nil arrives.walks.lines) in (
      at run.final arrives.router [],
      (at run.opening 0 [], record { opening = run.is_opening; nobody = refl; none = refl }, subst (λ (l : List (List ℕ)). LeadsBy (at run.opening 0 []) l (at run.final arrives.router [])) (sym lines) arrives.walks.leads),
      record { over = run.over; none = refl },
    )
