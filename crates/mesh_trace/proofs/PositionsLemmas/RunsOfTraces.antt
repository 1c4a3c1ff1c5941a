-- Each whole trace is the trace of a run: the lines of each event are the text of an event of the network, which they lead to.
use Rattle.mesh_trace.proofs.Common.{common_steps, ◌≡◌, ℕ, zero, suc, ◌+◌, ◌<◌, ◌≤◌, List, [], ◌∷◌, ◌++◌, length, map, Option, Some, None, refl, sym, ◌∙◌, subst, arith, slice_get, nat_eq, IfSome, append-nil, Addr4, Route, Emission, NetEvent, Relays, AreRelays, Bases, State, Arrival, Frame, Step, Heard_frame, Ticked, TakesMessages, Renews, IsPacket, IsHelloFrame, SendsHellos, SendsTcs, Traffic, SendsAll, frame_of, with_heard, some_originator, set_here, happened_line, relays_lines, Of_taken, Of_refused, NetState, NetStep, Moves, happening, IsOver, IsTraced, Traces, Alike, AlikeStates, Follows, HearsBy, Refused, Taken, part_items, HellosDue, Hellos_early, Hellos_due, TcsDue, Tcs_early, Tcs_silent, Tcs_due, WholeTracesAreRuns, WholeExactlyForRuns, To_event, To_item, LeadsBy, IsWholeTrace, Item, Sent, TracePosition, IsDone, with_state, with_traffic, relay_items, lines_of, IsLineOf}
use Rattle.mesh_atoms.specs.Routes.{AreRoutes}
use Rattle.mesh_routes.proofs.Existing.{routes_exist}
use Rattle.mesh_texts.specs.machine.declared.fate.Heard.TheVariants as heard
use Rattle.mesh_texts.specs.machine.Sending.{Hellos_early as Early_hellos, Hellos_due as Due_hellos}
use Rattle.mesh_texts.specs.machine.Sending.{Tcs_early as Early_tcs, Tcs_silent as Silent_tcs, Tcs_due as Due_tcs}
use Rattle.mesh_texts.specs.machine.Net.{By_delivery, By_tick, By_last_tick}
use Rattle.mesh_trace.specs.Positions.Events as opens
use Rattle.mesh_trace.proofs.PositionsLemmas.AlikeBases.{bases_itself}
use Rattle.mesh_trace.proofs.PositionsLemmas.AlikeNets.{nets_set, as_positions}
use Rattle.mesh_trace.proofs.PositionsLemmas.EventWalks.{rows_with}
use Rattle.mesh_trace.proofs.PositionsLemmas.EventsOnce.{nets_itself}
use Rattle.mesh_trace.proofs.PositionsLemmas.Fixed.{leads_along, done_along}
use Rattle.mesh_trace.proofs.PositionsLemmas.Leading.{at}
use Rattle.mesh_trace.proofs.PositionsLemmas.LinesLeft.{Leaves, leaves_one, leaves_on, relays_left}
use Rattle.mesh_trace.proofs.PositionsLemmas.LinesLeft.{Emits, emits_none, emits_as, emits_on, SendsWhole}
use Rattle.mesh_trace.proofs.PositionsLemmas.LinesLeft.{AreHellosFrom, frames_left, hellos_left, parts_left}
use Rattle.mesh_trace.proofs.PositionsLemmas.SoundPositions.{SoundState, AreSound, set_sound}
use Rattle.mesh_trace.proofs.PositionsLemmas.SoundPositions.{leads_sound, leads_by_sound, first_sound, takes_sound, ticks_sound}
use Rattle.mesh_trace.proofs.PositionsLemmas.TextLines.{OneLine, tick_one, heard_one}
use Rattle.mesh_trace.proofs.PositionsLemmas.WholeRuns.{told, told_so, told_same, line_so, step_walk, runs_are_whole}
use Rattle.mesh_texts.proofs.TraceSteps.{traces_run as runs_by}

-- ---- lines along positions that are alike

along_by : (p q end : TracePosition) (lines : List (List ℕ)) → AreSound p.net.routers → AreSound q.net.routers → Alike p q →
    LeadsBy p lines end → (other : TracePosition) × LeadsBy q lines other × Alike end other
along_by p q end [] sound sound' alike same = (q, refl, subst (λ (z : TracePosition). Alike z q) (sym same) alike)
along_by p q end (line ∷ lines) sound sound' alike (mid, one, more) =
    let (mid', one', alike') = leads_along p q mid line (record { sound = sound }) (record { sound = sound' }) alike one in
    let here = leads_sound p line mid sound one in
    let there = leads_sound q line mid' sound' one' in
    let (other, led, same) = along_by mid mid' end lines here there alike' more in
    (other, (mid', one', led), same)

-- ---- an event behind its first line

-- the router after an event, with its relays and routes; the lines are first those of its relays and of what it sends
record RouterAfter (net : NetState) (x : ℕ) (was u : State) (now : ℕ) (bases : Bases) (left : List Item) (lines : List (List ℕ))
    (P : State → List Frame → Type 0) : Type 0 where
  is : State
  renews : Renews was now bases is
  numbers : (is.sequence ≡ u.sequence) × (is.next_hello ≡ u.next_hello) × (is.next_tc ≡ u.next_tc)
  end : TracePosition
  done : IsDone end
  relays : Leaves (at (with_state net x is) x left) end lines (relays_lines is)
  emits : Emits (with_state net x is) x is [] end relays.rest (P is)

abbrev with_renewal : State → Relays → List Route → State
with_renewal u relays routes = record u { relays = relays; routes = routes }

-- what is left to be told in that state of the router is told by what it sends
abbrev SendsLeft : NetState → ℕ → State → List Item → (State → List Frame → Type 0) → Type 0
SendsLeft net x u left P = (relays : Relays) (routes : List Route) (end : TracePosition) (lines : List (List ℕ)) → IsDone end →
    LeadsBy (at (with_state net x (with_renewal u relays routes)) x left) lines end →
    Emits (with_state net x (with_renewal u relays routes)) x (with_renewal u relays routes) [] end lines (P (with_renewal u relays routes))

routes_alike : (s : State) (routes : List Route) → AlikeStates s (record s { routes = routes })
routes_alike s routes = grind (arith, common_steps, bases_itself)

router_after : (net : NetState) (x : ℕ) (was u : State) (now : ℕ) (bases : Bases) (left : List Item) (lines : List (List ℕ))
    (end : TracePosition) (P : State → List Frame → Type 0) → slice_get net.routers x ≡ Some was → AreSound net.routers → SoundState u →
    Follows was now bases u → IsDone end → LeadsBy (at (with_state net x u) x (relay_items u.settings ++ left)) lines end →
    SendsLeft net x u left P → RouterAfter net x was u now bases left lines P
unfolding relays_lines
router_after net x was u now bases left lines end P stood sound sound_u follows done leads sends =
    let r = relays_left net x was u end done stood left lines follows.relays leads in
    let s : State = record u { relays = r.relays } in
    let (self, own) = some_originator u.settings in
    let (routes, are) = routes_exist s u.last self sound_u.neighbourhood sound_u.topology own in
    let is = with_renewal u r.relays routes in
    let nets = nets_set net net x s is (nets_itself net) (routes_alike s routes) in
    let (other, led, same) = along_by _ _ end r.leaves.rest
    (set_sound net.routers x s sound sound_u) (set_sound net.routers x is sound sound_u)
    (as_positions (with_state net x s) (with_state net x is) x left nets) r.leaves.leads in
    record {
      is = is;
      renews = record {
        settings = follows.settings;
        bases_are = follows.bases_are;
        last = follows.last;
        relays = subst (λ (n : ℕ). AreRelays is n) follows.last (r.are routes);
        rows = rows_with u r.relays routes u.rows follows.rows;
        ansn = follows.ansn;
        emptied = follows.emptied;
        self = self;
        routes = subst (λ (n : ℕ). AreRoutes is n self) follows.last are;
      };
      numbers = (refl, refl, refl);
      end = other;
      done = done_along end other same done;
      relays = record { rest = r.leaves.rest; leads = led; fewer = r.leaves.fewer; are = r.leaves.are };
      emits = sends r.relays routes other r.leaves.rest (done_along end other same done) led;
    }

-- ---- a whole event

-- an event of the network; the lines are first those of its text, and those that are left are fewer
record EventBack (old : NetState) (lines : List (List ℕ)) : Type 0 where
  event : NetEvent
  new : NetState
  step : NetStep old event new
  text : List ℕ
  traced : IsTraced new event text
  end : TracePosition
  done : IsDone end
  leaves : Leaves (at new event.router []) end lines text
  less : length leaves.rest < length lines

-- that happens next to router x, and leaves that traffic before what is sent
abbrev IsNext : NetState → ℕ → ℕ → Option (ℕ × Addr4 × List ℕ) → Traffic → ℕ → Type 0
IsNext old x now what t l = (es : List Emission) (new : NetState) →
    Moves old (record { moment = now; router = x; heard = what; sent = es }) t new → new.last_ticks ≡ l →
    NetStep old (record { moment = now; router = x; heard = what; sent = es }) new

abbrev before_sending : NetState → Traffic → ℕ → NetState
before_sending old t l = record old { traffic = t; last_ticks = l }

-- a tick, or a frame that is taken
taken_back : (old : NetState) (x now : ℕ) (what : Option (ℕ × Addr4 × List ℕ)) (t : Traffic) (l : ℕ) (was u : State) (bases : Bases)
    (left : List Item) (line : List ℕ) (lines : List (List ℕ)) (end : TracePosition) (P : State → List Frame → Type 0) →
    IsNext old x now what t l → slice_get old.routers x ≡ Some was → IfSome what (λ h. IsPacket h.2) →
    OneLine (happened_line now was.settings what) → IsLineOf line (happened_line now was.settings what) →
    LeadsBy (at (with_state (before_sending old t l) x u) x (relay_items u.settings ++ left)) lines end →
    (r : RouterAfter (before_sending old t l) x was u now bases left lines P) →
    Step was (happening now what) (map frame_of r.emits.es) r.is → EventBack old (line ∷ lines)
taken_back old x now what t l was u bases left line lines end P may stood whole one told_is leads r step =
    let es = r.emits.es in
    let event : NetEvent = record { moment = now; router = x; heard = what; sent = es } in
    let new = with_traffic (with_state (before_sending old t l) x r.is) r.emits.after in
    let text = told_same old.scenario old.scenario now what what r.is.settings was.settings r.is r.is now r.is.last es
    refl refl r.renews.settings refl (sym r.renews.last) in
    let opened = leaves_one _ end (happened_line now was.settings what) line (line ∷ lines) lines one told_is refl leads in
    record {
      event = event;
      new = new;
      step = may es new (record {
        was = was;
        is = r.is;
        stood = stood;
        step = step;
        routers = refl;
        sends = subst (λ (n : ℕ). SendsAll old.scenario n x es t r.emits.after) r.renews.last r.emits.sends;
        scenario = refl;
      }) refl;
      text = told old.scenario now what was.settings r.is r.is.last es;
      traced = (r.is, set_here old.routers x r.is was stood, Of_taken whole (sym (told_so old.scenario event r.is ∙ text)));
      end = r.end;
      done = r.done;
      leaves = leaves_on _ _ _ r.end (line ∷ lines) _ _ (leaves_on _ _ _ r.end (line ∷ lines) _ _ opened r.relays) r.emits.leaves;
      less = let h = r.relays.fewer in let k = r.emits.leaves.fewer in omega (arith, h, k);
    }

-- ---- a tick

hellos_back : (old u : State) (net : NetState) (x : ℕ) (relays : Relays) (routes : List Route) (end : TracePosition) (items left : List Item)
    (lines : List (List ℕ)) → IsDone end → slice_get net.routers x ≡ Some (with_renewal u relays routes) → HellosDue old u items →
    LeadsBy (at net x (items ++ left)) lines end →
    Emits net x (with_renewal u relays routes) left end lines (SendsHellos old (with_renewal u relays routes))
hellos_back old u net x relays routes end items left lines done stood (Hellos_early early same) leads =
    let is = with_renewal u relays routes in
    emits_none net x is left end lines (SendsHellos old is) (Early_hellos early same) leads
hellos_back old u net x relays routes end items left lines done stood (Hellos_due due next) leads =
    let is = with_renewal u relays routes in
    let faces = u.settings.interfaces in
    emits_as net x is left end lines (AreHellosFrom is 0 (length faces)) (SendsHellos old is)
    (λ fs are. Due_hellos due next (record {
      count = are.0;
      each = λ i f there. (let none : 0 + i ≡ i = omega arith in subst (λ (k : ℕ). IsHelloFrame is k f) none (are.1 i f there));
    }))
    (hellos_left x is end done net left faces 0 lines stood leads)

tcs_back : (old u : State) (net : NetState) (x : ℕ) (relays : Relays) (routes : List Route) (end : TracePosition) (items : List Item)
    (lines : List (List ℕ)) → IsDone end → slice_get net.routers x ≡ Some (with_renewal u relays routes) → TcsDue old u items →
    LeadsBy (at net x items) lines end →
    Emits net x (with_renewal u relays routes) [] end lines (SendsTcs old (with_renewal u relays routes))
tcs_back old u net x relays routes end items lines done stood (Tcs_early early next sequence) leads =
    let is = with_renewal u relays routes in
    emits_none net x is [] end lines (SendsTcs old is) (Early_tcs early next sequence) leads
tcs_back old u net x relays routes end items lines done stood (Tcs_silent late next silent sequence) leads =
    let is = with_renewal u relays routes in
    emits_none net x is [] end lines (SendsTcs old is) (Silent_tcs late next silent sequence) leads
tcs_back old u net x relays routes end items lines done stood (Tcs_due late next has parts cut sequence) leads =
    let is = with_renewal u relays routes in
    let complete = nat_eq (length parts) 1 in
    let whole = append-nil (part_items complete old.sequence parts) in
    emits_as net x is [] end lines (SendsWhole is complete old.sequence parts) (SendsTcs old is)
    (λ fs are. let (validity, is_validity) = are.some cut.some in
    Due_tcs late next has parts cut validity is_validity sequence (are.sends validity is_validity))
    (parts_left x is end done net [] complete old.sequence parts lines stood
    (subst (λ (l : List Item). LeadsBy (at net x l) lines end) (sym whole) leads))

-- HELLOs and then TCs
record TickFrames (old is : State) (fs : List Frame) : Type 0 where
  hellos : List Frame
  sends_hellos : SendsHellos old is hellos
  tcs : List Frame
  sends_tcs : SendsTcs old is tcs
  whole : fs ≡ hellos ++ tcs

tick_sends : (net : NetState) (x : ℕ) (was u : State) (hellos tcs : List Item) → slice_get net.routers x ≡ Some was → HellosDue was u hellos →
    TcsDue was u tcs → SendsLeft net x u (hellos ++ tcs) (TickFrames was)
tick_sends net x was u hellos tcs stood are_hellos are_tcs relays routes end lines done leads =
    let is = with_renewal u relays routes in
    let here = with_state net x is in
    let stands = set_here net.routers x is was stood in
    let one = hellos_back was u here x relays routes end hellos tcs lines done stands are_hellos leads in
    emits_on here x is tcs [] end lines (SendsHellos was is) (SendsTcs was is) (TickFrames was is) one
    (tcs_back was u (with_traffic here one.after) x relays routes end tcs one.leaves.rest done stands are_tcs one.leaves.leads)
    (λ a b h k. record { hellos = a; sends_hellos = h; tcs = b; sends_tcs = k; whole = refl })

tick_back : (old : NetState) (x now l : ℕ) (line : List ℕ) (lines : List (List ℕ)) (mid end : TracePosition) →
    opens.OpensTick old x now l line mid → AreSound old.routers → IsDone end → LeadsBy mid lines end → IsNext old x now None old.traffic l →
    EventBack old (line ∷ lines)
tick_back old x now l line lines mid end o sound done leads may =
    let base = before_sending old old.traffic l in
    let t = o.ticks in
    let left : List Item = t.hellos ++ t.tcs in
    let from : LeadsBy (at (with_state base x o.is) x (relay_items o.is.settings ++ left)) lines end =
    subst (λ (i : List Item). LeadsBy (at (with_state base x o.is) x i) lines end) t.whole
    (subst (λ (p : TracePosition). LeadsBy p lines end) o.leads leads) in
    let sound_is = ticks_sound o.was now o.is o.left (sound x o.was o.stands) t in
    let r = router_after base x o.was o.is now t.live left lines end (TickFrames o.was) o.stands sound sound_is t.follows done from
    (tick_sends base x o.was o.is t.hellos t.tcs o.stands t.are_hellos t.are_tcs) in
    taken_back old x now None old.traffic l o.was o.is t.live left line lines end (TickFrames o.was) may o.stands tt
    (tick_one now o.was.settings) o.line_is from r (Ticked (record {
      live = t.live;
      is_live = t.is_live;
      renews = r.renews;
      hellos = r.emits.are.hellos;
      sends_hellos = r.emits.are.sends_hellos;
      tcs = r.emits.are.tcs;
      sends_tcs = r.emits.are.sends_tcs;
      sends = r.emits.are.whole;
    }))

-- ---- a frame is heard

hears_next : (old : NetState) (line : List ℕ) (mid : TracePosition) (o : opens.OpensHearing old line mid) →
    IsNext old o.arc.to o.delivery.moment (Some (o.arc.to_iface, o.sender, o.delivery.frame))
    (with_heard old.traffic o.others) old.last_ticks
hears_next old line mid o es new moves last = By_delivery (record {
  delivery = o.delivery;
  others = o.others;
  arc = o.arc;
  sender = o.sender;
  next = o.next;
  arc_is = o.arc_is;
  sender_is = o.sender_is;
  moment = refl;
  router = refl;
  heard = refl;
  moves = moves;
  last_ticks = last;
})

hear_back : (old : NetState) (line : List ℕ) (lines : List (List ℕ)) (mid end : TracePosition)
    (o : opens.OpensHearing old line mid) → AreSound old.routers → IsDone end → (is : State) (left : List Item) →
    HearsBy o.was (record { now = o.delivery.moment; iface = o.arc.to_iface; sender = o.sender }) o.delivery.frame is left →
    LeadsBy (at (with_traffic (with_state old o.arc.to is) (with_heard old.traffic o.others)) o.arc.to left) lines end →
    EventBack old (line ∷ lines)
hear_back old line lines mid end o sound done is left (Refused place reason fault) from =
    let x = o.arc.to in
    let frame = o.delivery.frame in
    let what : Option (ℕ × Addr4 × List ℕ) = Some (o.arc.to_iface, o.sender, frame) in
    let event : NetEvent = record { moment = o.delivery.moment; router = x; heard = what; sent = [] } in
    let new = with_traffic (with_state old x o.was) (with_heard old.traffic o.others) in
    let text = happened_line o.delivery.moment o.was.settings what in
    let one = heard_one o.delivery.moment o.was.settings o.arc.to_iface o.sender frame in
    let refused = Heard_frame (heard.Refused (record { place = place; reason = reason })) (fault, refl, refl) in
    record {
      event = event;
      new = new;
      step = hears_next old line mid o [] new
          (record { was = o.was; is = o.was; stood = o.stands; step = refused; routers = refl; sends = refl; scenario = refl }) refl;
      text = text;
      traced = (
        o.was,
        set_here old.routers x o.was o.was o.stands,
        Of_refused (record {
          iface = o.arc.to_iface;
          sender = o.sender;
          frame = frame;
          heard = refl;
          place = place;
          reason = reason;
          fault = fault;
        }) (sym (line_so event o.was.settings)),
      );
      end = end;
      done = done;
      leaves = leaves_one (at new x []) end text line (line ∷ lines) lines one o.line_is refl from;
      less = omega arith;
    }
hear_back old line lines mid end o sound done is left (Taken {sent} {new = u} t) from =
    let x = o.arc.to in
    let now = o.delivery.moment in
    let frame = o.delivery.frame in
    let traffic = with_heard old.traffic o.others in
    let base = before_sending old traffic old.last_ticks in
    let arrival : Arrival = record { now = now; iface = o.arc.to_iface; sender = o.sender } in
    let items : List Item = map Sent sent in
    let P : State → List Frame → Type 0 = λ is fs. fs ≡ sent in
    let sound_u = takes_sound o.was arrival frame sent u (sound x o.was o.stands) t in
    let sends : SendsLeft base x u items P = λ relays routes end lines done leads.
    (let is = with_renewal u relays routes in
    frames_left x is end done (with_state base x is) [] sent lines (set_here old.routers x is o.was o.stands)
    (subst (λ (i : List Item). LeadsBy (at (with_state base x is) x i) lines end) (sym (append-nil items)) leads)) in
    let r = router_after base x o.was u now t.bases items lines end P o.stands sound sound_u t.follows done from sends in
    let takes = subst
    (λ (fs : List Frame). TakesMessages o.was.settings t.own arrival frame t.live t.packet.messages t.spans t.bases fs t.fates)
    (sym r.emits.are) t.takes in
    taken_back old x now (Some (o.arc.to_iface, o.sender, frame)) traffic old.last_ticks o.was u t.bases items line lines end P
    (hears_next old line mid o) o.stands (t.packet, t.spans, t.spelled)
    (heard_one now o.was.settings o.arc.to_iface o.sender frame) o.line_is from r (Heard_frame (heard.Taken t.fates) (record {
      packet = t.packet;
      spans = t.spans;
      spelled = t.spelled;
      own = t.own;
      is_own = t.is_own;
      live = t.live;
      is_live = t.is_live;
      bases = t.bases;
      takes = takes;
      renews = r.renews;
      sequence = r.numbers.0 ∙ t.sequence;
      next_hello = r.numbers.1 ∙ t.next_hello;
      next_tc = r.numbers.2 ∙ t.next_tc;
    }))

-- ---- an event

event_back : (old : NetState) (line : List ℕ) (lines : List (List ℕ)) (mid end : TracePosition) →
    opens.OpensEvent old line mid → AreSound old.routers → IsDone end → LeadsBy mid lines end → EventBack old (line ∷ lines)
event_back old line lines mid end (opens.By_delivery o) sound done leads =
    hear_back old line lines mid end o sound done o.is o.left o.hears
    (subst (λ (p : TracePosition). LeadsBy p lines end) o.leads leads)
event_back old line lines mid end (opens.By_tick x moment next o) sound done leads =
    tick_back old x moment old.last_ticks line lines mid end o sound done leads
    (λ es new moves last. By_tick (record { next = next; heard = refl; moves = moves; last_ticks = last }))
event_back old line lines mid end (opens.By_last_tick only some o) sound done leads =
    tick_back old old.last_ticks old.scenario.end (old.last_ticks + 1) line lines mid end o sound done leads
    (λ es new moves last.
    By_last_tick (record { only = only; some = some; moment = refl; router = refl; heard = refl; moves = moves; last_ticks = last }))

-- ---- a run

-- a run to the end, and the lines of its trace
record RunFrom (net : NetState) (lines : List (List ℕ)) : Type 0 where
  events : List NetEvent
  final : NetState
  over : IsOver final
  text : List ℕ
  traces : Traces net events final text
  are : lines_of text ≡ lines

run_from : (most : ℕ) (net : NetState) (x : ℕ) (lines : List (List ℕ)) (end : TracePosition) → length lines ≤ most →
    AreSound net.routers → IsDone end → LeadsBy (at net x []) lines end → RunFrom net lines
run_from most net x [] end few sound done same = record {
  events = [];
  final = net;
  over = subst (λ (p : TracePosition). IsOver p.net) same done.over;
  text = [];
  traces = (refl, refl);
  are = refl;
}
run_from zero net x (line ∷ lines) end few sound done leads = absurd (omega (arith, few))
run_from (suc most) net x (line ∷ lines) end few sound done (mid, To_item {item} {rest} left stands tells led, more) = absurd cc
run_from (suc most) net x (line ∷ lines) end few sound done (mid, To_event none opens, more) =
    let e = event_back net line lines mid end opens sound done more in
    let walks = step_walk net e.new e.event e.text x e.step e.traced in
    let sound' = leads_by_sound (at net x []) walks.lines (at e.new e.event.router []) sound walks.leads in
    let fewer : length e.leaves.rest ≤ most = let h = e.less in omega (arith, few, h) in
    let run = run_from most e.new e.event.router e.leaves.rest e.end fewer sound' e.done e.leaves.leads in
    record {
      events = e.event ∷ run.events;
      final = run.final;
      over = run.over;
      text = e.text ++ run.text;
      traces = (e.new, e.step, e.text, run.text, e.traced, run.traces, refl);
      are = e.leaves.are run.text run.are;
    }

pub runs_of_whole_traces : WholeTracesAreRuns
runs_of_whole_traces s lines (end, (first, is, leads), done) =
    let from = subst (λ (left : List Item). LeadsBy (at first.net first.router left) lines end) is.none leads in
    let run = run_from (length lines) first.net first.router lines end (omega arith) (first_sound s first is) done from in
    let runs = runs_by first.net run.events run.final run.text run.traces in (
      record { opening = first.net; events = run.events; final = run.final; is_opening = is.opening; runs = runs; over = run.over },
      run.text,
      run.traces,
      run.are,
    )

pub whole_exactly_for_runs : WholeExactlyForRuns
whole_exactly_for_runs s lines = (
  runs_of_whole_traces s lines,
  λ h. (let (run, text, traced, same) = h in subst (IsWholeTrace s) same (runs_are_whole s run text traced)),
)
