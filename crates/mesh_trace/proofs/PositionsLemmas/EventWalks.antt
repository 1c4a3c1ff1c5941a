-- The lines of an event lead from the network before it to the network after it.
use Rattle.mesh_trace.proofs.Common.{◌≡◌, ℕ, zero, suc, ◌+◌, List, [], ◌∷◌, ◌++◌, length, map, Some, refl, sym, ap, ◌∙◌, subst, arith, slice_get, slice_set, nat_eq, flat_map, enumerate_from, append-nil, length-map, Addr4, Metric, Route, RadioArc, TcRow, Relays, GivesAsSelector, AreTcRows, AreRelays, Bases, State, same_row, Arrival, Fate, Frame, HearsPacket, TicksAt, Renews, IsHelloFrame, SendsHellos, SendsTcs, Emission, Traffic, Delivery, SendsAll, frame_of, with_heard, set_here, face_name, tick_line, heard_line, relays_lines, sent_lines, NetState, HearsNext, IsSender, Follows, TakesPacket, Taken, HellosDue, Hellos_early, Hellos_due, TcsDue, Tcs_early, Tcs_silent, Tcs_due, none_told, part_items, OpensEvent, OpensTick, By_delivery, Item, Sent, TracePosition, with_state, with_traffic, relay_items, To_event}
use Rattle.mesh_texts.specs.machine.Sending.{Hellos_early as Early_hellos, Hellos_due as Due_hellos, Tcs_early as Early_tcs, Tcs_silent as Silent_tcs, Tcs_due as Due_tcs}
use Rattle.mesh_trace.specs.Positions.Standing.{Hello}
use Rattle.mesh_trace.proofs.PositionsLemmas.DueWalks.{cut_of, sends_cut, lines_cut, hellos_walk, parts_walk}
use Rattle.mesh_trace.proofs.PositionsLemmas.Leading.{at}
use Rattle.mesh_trace.proofs.PositionsLemmas.RelayWalks.{relays_walk}
use Rattle.mesh_trace.proofs.PositionsLemmas.SendingWalks.{frames_walk}
use Rattle.mesh_trace.proofs.PositionsLemmas.TextLines.{tick_one, heard_one}
use Rattle.mesh_trace.proofs.PositionsLemmas.Walks.{Walks, walks_nowhere, walks_one, walks_on}

-- ---- before relays are told

-- the router before its relays are told
abbrev pub untold : State → State
untold s = record s { relays = none_told }

-- the advertised rows depend neither on relays nor on routes
pub rows_with : (s : State) (relays : Relays) (routes : List Route) (rows : List TcRow) → AreTcRows s rows →
    AreTcRows (record s { relays = relays; routes = routes }) rows
rows_with s relays routes rows are =
    let t : State = record s { relays = relays; routes = routes } in
    let to : (a o : Addr4) (m : Metric) → GivesAsSelector s a o m → GivesAsSelector t a o m = λ a o m g.
    record { neighbour = g.neighbour; symmetric = g.symmetric; selects = g.selects; metric = g.metric; address = g.address } in
    let back : (a o : Addr4) (m : Metric) → GivesAsSelector t a o m → GivesAsSelector s a o m = λ a o m g.
    record { neighbour = g.neighbour; symmetric = g.symmetric; selects = g.selects; metric = g.metric; address = g.address } in
    record {
      exactly = λ row. (
        λ has. same_row (GivesAsSelector s) (GivesAsSelector t) (λ a o m. (to a o m, back a o m)) s.settings.attached row ((are.exactly row).0 has),
        λ is. (are.exactly row).1 (same_row (GivesAsSelector t) (GivesAsSelector s) (λ a o m. (back a o m, to a o m)) s.settings.attached row is),
      );
      ordered = are.ordered;
    }

follows_of : (old : State) (now : ℕ) (bases : Bases) (new : State) → Renews old now bases new → Follows old now bases (untold new)
follows_of old now bases new r = record {
  settings = r.settings;
  bases_are = r.bases_are;
  last = r.last;
  relays = refl;
  rows = rows_with new none_told new.routes new.rows r.rows;
  ansn = r.ansn;
  emptied = r.emptied;
}

pub takes_of : (old : State) (arrival : Arrival) (bytes : List ℕ) (fates : List Fate) (sent : List Frame) (new : State) → HearsPacket old arrival bytes fates sent new → TakesPacket old arrival bytes sent (untold new)
takes_of old arrival bytes fates sent new h = record {
  packet = h.packet;
  spans = h.spans;
  spelled = h.spelled;
  own = h.own;
  is_own = h.is_own;
  live = h.live;
  is_live = h.is_live;
  bases = h.bases;
  fates = fates;
  takes = h.takes;
  follows = follows_of old arrival.now h.bases new h.renews;
  sequence = h.sequence;
  next_hello = h.next_hello;
  next_tc = h.next_tc;
}

-- the relays of a router that renewed them
pub relays_now : (old : State) (now : ℕ) (bases : Bases) (new : State) → Renews old now bases new → AreRelays new new.last
relays_now old now bases new r = subst (AreRelays new) (sym r.last) r.relays

-- ---- behind the relay lines

-- the items of HELLOs
record HellosBy (old new : State) (sent : List Frame) (net : NetState) (x : ℕ) : Type 0 where
  items : List Item
  are : HellosDue old new items
  walks : (rest : List Item) (es : List Emission) (before after : Traffic) → slice_get net.routers x ≡ Some new → map frame_of es ≡ sent →
      SendsAll net.scenario new.last x es before after →
      Walks (at (with_traffic net before) x (items ++ rest)) (at (with_traffic net after) x rest) (flat_map (sent_lines net.scenario new.last new.settings) es)

-- nothing is sent
none_walk : (net : NetState) (x : ℕ) (s : State) (rest : List Item) (es : List Emission) (before after : Traffic) → map frame_of es ≡ [] → SendsAll net.scenario s.last x es before after →
    Walks (at (with_traffic net before) x rest) (at (with_traffic net after) x rest) (flat_map (sent_lines net.scenario s.last s.settings) es)
none_walk net x s rest [] before after none sends = subst (λ (t : Traffic). Walks (at (with_traffic net before) x rest) (at (with_traffic net t) x rest) []) (sym sends) (walks_nowhere _)
none_walk net x s rest (e ∷ es) before after none sends = absurd cc

stands_of : (es : List Emission) (fs : List Frame) (k : ℕ) (e : Emission) → map frame_of es ≡ fs → slice_get es k ≡ Some e → slice_get fs k ≡ Some (frame_of e)
stands_of es fs k e are at = subst (λ (l : List Frame). slice_get l k ≡ Some (frame_of e)) are (mapped es k at) where
  mapped : (xs : List Emission) (i : ℕ) → slice_get xs i ≡ Some e → slice_get (map frame_of xs) i ≡ Some (frame_of e)
  mapped [] i there = absurd cc
  mapped (y ∷ ys) zero there = let same : y ≡ e = cc in ap (λ (z : Emission). Some (frame_of z)) same
  mapped (y ∷ ys) (suc i) there = mapped ys i there

hellos_by : (old new : State) (sent : List Frame) (net : NetState) (x : ℕ) → SendsHellos old new sent → HellosBy old new sent net x
hellos_by old new sent net x (Early_hellos early same) = record {
  items = [];
  are = Hellos_early early same;
  walks = λ rest es before after stood are sends. none_walk net x new rest es before after are sends;
}
hellos_by old new sent net x (Due_hellos due next frames) = record {
  items = map (λ f. Hello f.0) (enumerate_from 0 new.settings.interfaces);
  are = Hellos_due due next;
  walks = λ rest es before after stood are sends.
      hellos_walk net x new rest new.settings.interfaces 0 es before after stood
      (let h = frames.count in let k = length-map es frame_of in let l = ap length are in omega (arith, h, k, l))
      (λ k e there. let none : k ≡ 0 + k = omega arith in subst (λ (i : ℕ). IsHelloFrame new i (frame_of e)) none (frames.each k (frame_of e) (stands_of es sent k e are there))) sends;
}

record TcsBy (old new : State) (sent : List Frame) (net : NetState) (x : ℕ) : Type 0 where
  items : List Item
  are : TcsDue old new items
  walks : (rest : List Item) (es : List Emission) (before after : Traffic) → slice_get net.routers x ≡ Some new → map frame_of es ≡ sent →
      SendsAll net.scenario new.last x es before after →
      Walks (at (with_traffic net before) x (items ++ rest)) (at (with_traffic net after) x rest) (flat_map (sent_lines net.scenario new.last new.settings) es)

tcs_by : (old new : State) (sent : List Frame) (net : NetState) (x : ℕ) → SendsTcs old new sent → TcsBy old new sent net x
tcs_by old new sent net x (Early_tcs early next sequence) = record {
  items = [];
  are = Tcs_early early next sequence;
  walks = λ rest es before after stood are sends. none_walk net x new rest es before after are sends;
}
tcs_by old new sent net x (Silent_tcs late next silent sequence) = record {
  items = [];
  are = Tcs_silent late next silent sequence;
  walks = λ rest es before after stood are sends. none_walk net x new rest es before after are sends;
}
tcs_by old new sent net x (Due_tcs late next has parts cut validity is_validity sequence sends_parts) = record {
  items = part_items (nat_eq (length parts) 1) old.sequence parts;
  are = Tcs_due late next has parts cut sequence;
  walks = λ rest es before after stood are sends.
      parts_walk net x new rest validity (nat_eq (length parts) 1) old.sequence parts sent es before after stood is_validity sends_parts are sends;
}

hellos_untold : (old new : State) (items : List Item) → HellosDue old new items → HellosDue old (untold new) items
hellos_untold old new items (Hellos_early early same) = Hellos_early early same
hellos_untold old new items (Hellos_due late next) = Hellos_due late next

tcs_untold : (old new : State) (items : List Item) → TcsDue old new items → TcsDue old (untold new) items
tcs_untold old new items (Tcs_early early next sequence) = Tcs_early early next sequence
tcs_untold old new items (Tcs_silent late next silent sequence) = Tcs_silent late next silent sequence
tcs_untold old new items (Tcs_due late next has parts cut sequence) = Tcs_due late next has parts cut sequence

-- ---- a tick

pub tick_walk : (old : NetState) (x0 x now l : ℕ) (was is : State) (sent : List Frame) (es : List Emission) (after : Traffic) → slice_get old.routers x ≡ Some was → TicksAt was now sent is →
    map frame_of es ≡ sent → SendsAll old.scenario now x es old.traffic after →
    ((line : List ℕ) (p : TracePosition) → OpensTick old x now l line p → OpensEvent old line p) →
    Walks (at old x0 []) (at (record old { routers = slice_set old.routers x is; traffic = after; last_ticks = l }) x [])
    ((tick_line now was.settings.name ++ relays_lines is) ++ flat_map (sent_lines old.scenario is.last is.settings) es)
tick_walk old x0 x now l was is sent es after stood ticks frames sends opens =
    let base : NetState = record old { last_ticks = l } in
    let hellos = hellos_by was is ticks.hellos (with_state base x is) x ticks.sends_hellos in
    let tcs = tcs_by was is ticks.tcs (with_state base x is) x ticks.sends_tcs in
    let left : List Item = hellos.items ++ tcs.items in
    let cut = cut_of es ticks.hellos ticks.tcs (frames ∙ ticks.sends) in
    let by_last : SendsAll old.scenario is.last x es old.traffic after = subst (λ (n : ℕ). SendsAll old.scenario n x es old.traffic after) (sym ticks.renews.last) sends in
    let (mid, sends_hellos, sends_tcs) = sends_cut base is.last x cut.front cut.behind old.traffic after (subst (λ (f : List Emission). SendsAll old.scenario is.last x f old.traffic after) cut.whole by_last) in
    let stands_is : slice_get (with_state base x is).routers x ≡ Some is = set_here old.routers x is was stood in
    let text = flat_map (sent_lines old.scenario is.last is.settings) in
    let settings : is.settings ≡ was.settings = ticks.renews.settings in
    let opening = walks_one (at old x0 []) (at (with_state base x (untold is)) x (relay_items is.settings ++ left)) (tick_line now was.settings.name) (tick_one now was.settings)
    (λ line told. To_event refl (opens line _ (record {
      was = was;
      stands = stood;
      line_is = told;
      is = untold is;
      left = relay_items is.settings ++ left;
      ticks = record {
        live = ticks.live;
        is_live = ticks.is_live;
        follows = follows_of was now ticks.live is ticks.renews;
        hellos = hellos.items;
        are_hellos = hellos_untold was is hellos.items hellos.are;
        tcs = tcs.items;
        are_tcs = tcs_untold was is tcs.items tcs.are;
        whole = refl;
      };
      leads = refl;
    }))) in
    let sendings : Walks (at (with_state base x is) x left) (at (with_traffic (with_state base x is) after) x []) (text es) =
    subst (λ (t : List ℕ). Walks (at (with_state base x is) x left) (at (with_traffic (with_state base x is) after) x []) t) (sym (ap text cut.whole ∙ lines_cut (sent_lines old.scenario is.last is.settings) cut.front cut.behind))
    (walks_on _ (at (with_traffic (with_state base x is) mid) x tcs.items) _ (text cut.front) (text cut.behind)
    (hellos.walks tcs.items cut.front old.traffic mid stands_is cut.front_is sends_hellos)
    (subst (λ (items : List Item). Walks (at (with_traffic (with_state base x is) mid) x items) (at (with_traffic (with_state base x is) after) x []) (text cut.behind)) (append-nil tcs.items)
    (tcs.walks [] cut.behind mid after stands_is cut.behind_is sends_tcs))) in
    walks_on _ (at (with_state base x is) x left) _ (tick_line now was.settings.name ++ relays_lines is) (text es)
    (walks_on _ (at (with_state base x (untold is)) x (relay_items is.settings ++ left)) _ (tick_line now was.settings.name) (relays_lines is) opening
    (relays_walk base x was is stood (relays_now was now ticks.live is ticks.renews) left))
    sendings

-- ---- a frame is heard

pub hear_walk : (old : NetState) (x0 : ℕ) (delivery : Delivery) (others : List Delivery) (arc : RadioArc) (sender : Addr4) (was is : State) (fates : List Fate) (es : List Emission) (after : Traffic) →
    HearsNext old delivery others → slice_get old.scenario.arcs delivery.arc ≡ Some arc → IsSender old.scenario.routers arc sender → slice_get old.routers arc.to ≡ Some was →
    HearsPacket was (record { now = delivery.moment; iface = arc.to_iface; sender = sender }) delivery.frame fates (map frame_of es) is →
    SendsAll old.scenario delivery.moment arc.to es (with_heard old.traffic others) after →
    Walks (at old x0 []) (at (record old { routers = slice_set old.routers arc.to is; traffic = after }) arc.to [])
    ((heard_line delivery.moment was.settings.name (face_name was.settings.interfaces arc.to_iface) sender delivery.frame ++ relays_lines is) ++ flat_map (sent_lines old.scenario is.last is.settings) es)
hear_walk old x0 delivery others arc sender was is fates es after next arc_is sender_is stood hears sends =
    let arrival : Arrival = record { now = delivery.moment; iface = arc.to_iface; sender = sender } in
    let base : NetState = with_traffic old (with_heard old.traffic others) in
    let left : List Item = map Sent (map frame_of es) in
    let line_text = heard_line delivery.moment was.settings.name (face_name was.settings.interfaces arc.to_iface) sender delivery.frame in
    let by_last : SendsAll old.scenario is.last arc.to es (with_heard old.traffic others) after = subst (λ (n : ℕ). SendsAll old.scenario n arc.to es (with_heard old.traffic others) after) (sym hears.renews.last) sends in
    let stands_is : slice_get (with_state base arc.to is).routers arc.to ≡ Some is = set_here old.routers arc.to is was stood in
    let opening = walks_one (at old x0 []) (at (with_state base arc.to (untold is)) arc.to (relay_items is.settings ++ left)) line_text (heard_one delivery.moment was.settings arc.to_iface sender delivery.frame)
    (λ line told. To_event refl (By_delivery (record {
      delivery = delivery;
      others = others;
      arc = arc;
      sender = sender;
      next = next;
      arc_is = arc_is;
      sender_is = sender_is;
      was = was;
      stands = stood;
      line_is = told;
      is = untold is;
      left = relay_items is.settings ++ left;
      hears = Taken (takes_of was arrival delivery.frame fates (map frame_of es) is hears);
      leads = refl;
    }))) in
    let sendings = subst (λ (items : List Item). Walks (at (with_state base arc.to is) arc.to items) (at (with_traffic (with_state base arc.to is) after) arc.to []) (flat_map (sent_lines old.scenario is.last is.settings) es)) (append-nil left)
    (frames_walk (with_state base arc.to is) arc.to is [] es (map frame_of es) (with_heard old.traffic others) after stands_is refl by_last) in
    walks_on _ (at (with_state base arc.to is) arc.to left) _ (line_text ++ relays_lines is) (flat_map (sent_lines old.scenario is.last is.settings) es)
    (walks_on _ (at (with_state base arc.to (untold is)) arc.to (relay_items is.settings ++ left)) _ line_text (relays_lines is) opening
    (relays_walk base arc.to was is stood (relays_now was delivery.moment hears.bases is hears.renews) left))
    sendings
