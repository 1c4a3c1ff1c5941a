-- The lines of an event behind its first one: the relays and frames that they tell, and the lines that they leave.
use Rattle.mesh_trace.proofs.Common.{common_steps, ◌≡◌, ℕ, zero, suc, ◌+◌, ◌%◌, ◌<◌, ◌≤◌, List, [], ◌∷◌, ◌++◌, length, length-append, map, Some, Bool, codes, refl, sym, ap, ◌∙◌, subst, append_assoc, arith, All, slice_get, flat_map, enumerate_from, append-nil, append_cancel_right, map-append, All-head, All-tail, Addr4, NeighbourGraph, Route, Emission, Interface, TcRow, Relays, AreRelays, AreRelaysOf, IsFloodingGraph, State, IsValidity, Far, Near, IsLeastCode, Frame, IsHelloFrame, SendsParts, No_part, First_part, Traffic, SendsAll, frame_of, set_here, same_at, each_more, sent_lost, face_name, flooding_text, flooding_relays_line, routing_relays_line, relays_lines, sent_line, lost_line, sent_lines, NetState, none_told, part_items, TellsItem, TellsFrame, AreTcFrames, LeadsBy, Item, Flooding, Routing, Sent, Lost, TracePosition, IsDone, with_state, with_traffic, relay_items, lines_of, IsLineOf}
use Rattle.mesh_atoms.specs.declared.settings.NearHold.{NearHold}
use Rattle.mesh_trace.specs.Positions.Standing.{Hello, Tc}
use Rattle.mesh_trace.proofs.PositionsLemmas.AlikeItems.{tells_flooding, tells_routing, tells_hello, tells_tc}
use Rattle.mesh_trace.proofs.PositionsLemmas.DueWalks.{lines_cut}
use Rattle.mesh_trace.proofs.PositionsLemmas.Leading.{at, undone, leads_item, tells_loss, tells_frame}
use Rattle.mesh_trace.proofs.PositionsLemmas.RelayWalks.{told_so, set_again, behind_some, flooding_by}
use Rattle.mesh_trace.proofs.PositionsLemmas.SendingWalks.{lost_one}
use Rattle.mesh_trace.proofs.PositionsLemmas.TcFrames.{one_part}
use Rattle.mesh_trace.proofs.PositionsLemmas.TextLines.{OneLine, lines_more, flooding_one, routing_one, sent_one}

-- the lines are those of the text, and then some that lead from q to the end
pub record Leaves (q end : TracePosition) (lines : List (List ℕ)) (text : List ℕ) : Type 0 where
  pub rest : List (List ℕ)
  pub leads : LeadsBy q rest end
  pub fewer : length rest ≤ length lines
  pub are : (more : List ℕ) → lines_of more ≡ rest → lines_of (text ++ more) ≡ lines

abbrev pub leaves_all : (q end : TracePosition) (lines : List (List ℕ)) → LeadsBy q lines end → Leaves q end lines []
leaves_all q end lines leads = record { rest = lines; leads = leads; fewer = omega arith; are = λ more same. same }

abbrev pub leaves_one : (q end : TracePosition) (text line : List ℕ) (lines others : List (List ℕ)) → OneLine text → IsLineOf line text →
    lines ≡ line ∷ others → LeadsBy q others end → Leaves q end lines text
leaves_one q end text line lines others one is whole leads = record {
  rest = others;
  leads = leads;
  fewer = let h = ap (λ (l : List (List ℕ)). length l) whole in omega (arith, h);
  are = λ more same.
      lines_more text more one
      ∙ (ap (λ (l : List ℕ). l ∷ lines_of more) (append_cancel_right one.inside line (codes "\n") (one.whole ∙ sym is))
      ∙ (ap (λ (l : List (List ℕ)). line ∷ l) same ∙ sym whole));
}

abbrev pub leaves_on : (p q mid end : TracePosition) (lines : List (List ℕ)) (a b : List ℕ) → (one : Leaves p mid lines a) →
    Leaves q end one.rest b → Leaves q end lines (a ++ b)
leaves_on p q mid end lines a b one more = record {
  rest = more.rest;
  leads = more.leads;
  fewer = let h = one.fewer in let k = more.fewer in omega (arith, h, k);
  are = λ behind same. ap lines_of (append_assoc a b behind) ∙ one.are (b ++ behind) (more.are behind same);
}

-- the next line, where an item is left to be told of an event that is told whole
record NextLine (net : NetState) (x : ℕ) (s : State) (item : Item) (left : List Item) (end : TracePosition) (lines : List (List ℕ)) :
    Type 0 where
  line : List ℕ
  others : List (List ℕ)
  whole : lines ≡ line ∷ others
  new : NetState
  more : List Item
  tells : TellsItem net x s line item new more
  leads : LeadsBy (at new x (more ++ left)) others end

next_line : (net : NetState) (x : ℕ) (s : State) (item : Item) (left : List Item) (end : TracePosition) (lines : List (List ℕ)) → IsDone end →
    slice_get net.routers x ≡ Some s → LeadsBy (at net x (item ∷ left)) lines end → NextLine net x s item left end lines
next_line net x s item left end [] done stood same = absurd (undone net x item left (subst IsDone same done))
next_line net x s item left end (line ∷ lines) done stood (mid, one, more) =
    let told = leads_item net x item left line mid one in
    let states = same_at net.routers x told.s s told.stands stood in
    record {
      line = line;
      others = lines;
      whole = refl;
      new = told.new;
      more = told.more;
      tells = subst (λ (z : State). TellsItem net x z line item told.new told.more) states told.tells;
      leads = subst (λ (z : TracePosition). LeadsBy z lines end) told.leads more;
    }

onward : (x : ℕ) (left : List Item) (end : TracePosition) (lines : List (List ℕ)) (m n : NetState) (more items : List Item) → m ≡ n →
    more ≡ items → LeadsBy (at m x (more ++ left)) lines end → LeadsBy (at n x (items ++ left)) lines end
onward x left end lines m n more items net same leads = grind (arith, common_steps, leads)

-- ---- relays

-- relays that may be those of an interface
abbrev Chosen : State → ℕ → List Addr4 → Type 0
Chosen s i relays = (g : NeighbourGraph) × IsFloodingGraph s s.last i g × AreRelaysOf g relays

-- the relays of all interfaces, by the lines of those from n on
record FloodsLeft (net : NetState) (x : ℕ) (u : State) (left : List Item) (end : TracePosition) (lines : List (List ℕ))
    (told : List (List Addr4)) (n : ℕ) (faces : List Interface) : Type 0 where
  flooding : List (List Addr4)
  todo : List (List Addr4)
  is : flooding ≡ told ++ todo
  count : length flooding ≡ length told + length faces
  each : (i : ℕ) (relays : List Addr4) → slice_get flooding i ≡ Some relays → Chosen u i relays
  leaves : Leaves (at (with_state net x (told_so u flooding)) x left) end lines
      (flat_map (flooding_relays_line u.settings.name flooding) (enumerate_from n faces))

-- the relays, by the lines of all
pub record RelaysLeft (net : NetState) (x : ℕ) (u : State) (left : List Item) (end : TracePosition) (lines : List (List ℕ)) : Type 0 where
  pub relays : Relays
  pub are : (routes : List Route) → AreRelays (record u { relays = relays; routes = routes }) u.last
  pub leaves : Leaves (at (with_state net x (record u { relays = relays })) x left) end lines (relays_lines (record u { relays = relays }))

-- what stands behind some, by their number
at_behind : {A : Type 0} (whole front : List A) (x : A) (rest : List A) (n : ℕ) → whole ≡ front ++ x ∷ rest → length front ≡ n →
    slice_get whole n ≡ Some x
at_behind whole front x rest n is long = rw (is, ← long) (behind_some front x rest)

module _ (net : NetState) (x : ℕ) (was u : State) (end : TracePosition) (done : IsDone end) (stood : slice_get net.routers x ≡ Some was) where
  floods_left : (left : List Item) (front faces : List Interface) (n : ℕ) (told : List (List Addr4)) (lines : List (List ℕ)) →
      u.settings.interfaces ≡ front ++ faces → length front ≡ n → length told ≡ n →
      ((i : ℕ) (relays : List Addr4) → slice_get told i ≡ Some relays → Chosen u i relays) →
      LeadsBy (at (with_state net x (told_so u told)) x (map (λ f. Flooding f.0) (enumerate_from n faces) ++ left)) lines end →
      FloodsLeft net x u left end lines told n faces
  floods_left left front [] n told lines faces_are front_is told_is each leads = grind (arith, common_steps)
  floods_left left front (face ∷ faces) n told lines faces_are front_is told_is each leads =
      let here = told_so u told in
      let items : List Item = map (λ f. Flooding f.0) (enumerate_from (n + 1) faces) ++ left in
      let next = next_line (with_state net x here) x here (Flooding n) items end lines done (set_here net.routers x here was stood) leads in
      let t = tells_flooding (with_state net x here) x here next.line n next.new next.more next.tells in
      let longer = told ++ t.relays ∷ [] in
      let there = told_so u longer in
      let face_at = at_behind u.settings.interfaces front face faces n faces_are front_is in
      let face_is : t.face ≡ face = same_at u.settings.interfaces n t.face face t.face_is face_at in
      let on : LeadsBy (at (with_state net x there) x items) next.others end =
      subst (λ (m : NetState). LeadsBy (at m x items) next.others end) (set_again net x here there)
      (onward x items end next.others next.new (with_state (with_state net x here) x there) next.more [] t.new_is t.more_is next.leads) in
      let graph = t.graph_is in
      let chosen : Chosen u n t.relays = (t.graph, record { near = graph.near; direct = graph.direct; far = graph.far }, t.are) in
      let more = floods_left left (front ++ face ∷ []) faces (n + 1) longer next.others
      (faces_are ∙ sym (append_assoc front (face ∷ []) faces))
      (let h = length-append front (face ∷ []) in omega (arith, h, front_is))
      (let h = length-append told (t.relays ∷ []) in omega (arith, h, told_is))
      (each_more (λ i relays. Chosen u i relays) told t.relays each (subst (λ (k : ℕ). Chosen u k t.relays) (sym told_is) chosen)) on in
      let is : more.flooding ≡ told ++ t.relays ∷ more.todo = more.is ∙ append_assoc told (t.relays ∷ []) more.todo in
      let one_at = at_behind more.flooding told t.relays more.todo n is told_is in
      let text = flooding_relays_line u.settings.name more.flooding (n, face) in
      let same = ap (λ (f : Interface). flooding_text u.settings.name f.name t.relays) face_is in
      record {
        flooding = more.flooding;
        todo = t.relays ∷ more.todo;
        is = is;
        count = let h = more.count in let k = length-append told (t.relays ∷ []) in omega (arith, h, k);
        each = more.each;
        leaves = leaves_on _ _ _ end lines text _
            (leaves_one _ end text next.line lines next.others (flooding_one u.settings more.flooding (n, face))
            (t.is ∙ (same ∙ sym (flooding_by u more.flooding n face t.relays one_at))) next.whole on) more.leaves;
      }

  pub relays_left : (left : List Item) (lines : List (List ℕ)) → u.relays ≡ none_told →
      LeadsBy (at (with_state net x u) x (relay_items u.settings ++ left)) lines end → RelaysLeft net x u left end lines
  unfolding relays_lines
  relays_left left lines none leads =
      let floods : List Item = map (λ f. Flooding f.0) (enumerate_from 0 u.settings.interfaces) in
      let from : LeadsBy (at (with_state net x (told_so u [])) x (floods ++ Routing ∷ left)) lines end =
      subst (λ (r : Relays). LeadsBy (at (with_state net x (record u { relays = r })) x (floods ++ Routing ∷ left)) lines end) none
      (subst (λ (l : List Item). LeadsBy (at (with_state net x u) x l) lines end) (append_assoc floods (Routing ∷ []) left) leads) in
      let f = floods_left (Routing ∷ left) [] u.settings.interfaces 0 [] lines refl refl refl (λ i relays there. absurd cc) from in
      let here = told_so u f.flooding in
      let old = with_state net x here in
      let next = next_line old x here Routing left end f.leaves.rest done (set_here net.routers x here was stood) f.leaves.leads in
      let t = tells_routing old x here next.line next.new next.more next.tells in
      let relays : Relays = record { flooding = f.flooding; routing = t.relays } in
      let is : State = record u { relays = relays } in
      let on : LeadsBy (at (with_state net x is) x left) next.others end =
      subst (λ (m : NetState). LeadsBy (at m x left) next.others end) (set_again net x here is)
      (onward x left end next.others next.new (with_state old x is) next.more [] t.new_is t.more_is next.leads) in
      record {
        relays = relays;
        are = λ routes.
            record {
              interfaces = let h = f.count in omega (arith, h);
              flooding = λ i one there.
                  (let (g, is, chosen) = f.each i one there in (g, record { near = is.near; direct = is.direct; far = is.far }, chosen));
              routing = (t.graph, record { near = t.graph_is.near; direct = t.graph_is.direct; far = t.graph_is.far }, t.are);
            };
        leaves = leaves_on _ _ _ end lines _ _ f.leaves
            (leaves_one _ end (routing_relays_line u.settings.name t.relays) next.line f.leaves.rest next.others
            (routing_one u.settings t.relays) t.is next.whole on);
      }

-- ---- frames

-- the lines are first those of frames that are sent, of which that holds
pub record Emits (net : NetState) (x : ℕ) (s : State) (left : List Item) (end : TracePosition) (lines : List (List ℕ))
    (P : List Frame → Type 0) : Type 0 where
  pub es : List Emission
  pub after : Traffic
  pub are : P (map frame_of es)
  pub sends : SendsAll net.scenario s.last x es net.traffic after
  pub leaves : Leaves (at (with_traffic net after) x left) end lines (flat_map (sent_lines net.scenario s.last s.settings) es)

pub emits_none : (net : NetState) (x : ℕ) (s : State) (left : List Item) (end : TracePosition) (lines : List (List ℕ))
    (P : List Frame → Type 0) → P [] → LeadsBy (at net x left) lines end → Emits net x s left end lines P
emits_none net x s left end lines P none leads =
    record { es = []; after = net.traffic; are = none; sends = refl; leaves = leaves_all (at net x left) end lines leads }

pub emits_as : (net : NetState) (x : ℕ) (s : State) (left : List Item) (end : TracePosition) (lines : List (List ℕ))
    (P Q : List Frame → Type 0) → ((fs : List Frame) → P fs → Q fs) → Emits net x s left end lines P → Emits net x s left end lines Q
emits_as net x s left end lines P Q to h = grind (arith, common_steps)

sends_on : (net : NetState) (now x : ℕ) (front behind : List Emission) (before mid after : Traffic) →
    SendsAll net.scenario now x front before mid → SendsAll net.scenario now x behind mid after →
    SendsAll net.scenario now x (front ++ behind) before after
sends_on net now x [] behind before mid after same more = subst (λ (t : Traffic). SendsAll net.scenario now x behind t after) same more
sends_on net now x (e ∷ es) behind before mid after (one, first, others) more =
    (one, first, sends_on net now x es behind one mid after others more)

pub emits_on : (net : NetState) (x : ℕ) (s : State) (mid left : List Item) (end : TracePosition) (lines : List (List ℕ))
    (P Q R : List Frame → Type 0) → (first : Emits net x s mid end lines P) →
    Emits (with_traffic net first.after) x s left end first.leaves.rest Q → ((a b : List Frame) → P a → Q b → R (a ++ b)) →
    Emits net x s left end lines R
emits_on net x s mid left end lines P Q R first more both = grind (arith, common_steps, map-append, sends_on, lines_cut)

pub code_once : (ticks a b : ℕ) → IsLeastCode ticks a → IsLeastCode ticks b → a ≡ b
code_once ticks a b h k = grind (arith, common_steps)

pub validity_once : (hold : ℕ) (nears : List NearHold) (one other : List ℕ) → IsValidity hold nears one →
    IsValidity hold nears other → one ≡ other
validity_once hold [] one other (Far {code} h) (Far {code = code'} k) = ap (λ (c : ℕ). c ∷ []) (code_once hold code code' h k)
validity_once hold (near ∷ nears) one other (Near {code} {value} h more) (Near {code = code'} {value = value'} k more') = grind (arith, common_steps, code_once, (validity_once hold nears value value' more more'))

abbrev IsValidityOf : State → List ℕ → Type 0
IsValidityOf s = IsValidity s.settings.times.topology_hold s.settings.near_hold

-- the frames of TCs with each part of the rows, whatever has their validity; and where there is a part, something has
pub record SendsWhole (s : State) (complete : Bool) (sequence : ℕ) (parts : List (List TcRow)) (fs : List Frame) : Type 0 where
  pub sends : (validity : List ℕ) → IsValidityOf s validity → SendsParts s validity complete sequence parts fs
  pub some : 0 < length parts → (validity : List ℕ) × IsValidityOf s validity

parts_more : (s : State) (complete : Bool) (sequence : ℕ) (rows : List TcRow) (parts : List (List TcRow)) (first : Frame)
    (further more : List Frame) → AreTcFrames s complete sequence rows first further →
    SendsWhole s complete ((sequence + 1) % 65536) parts more → SendsWhole s complete sequence (rows ∷ parts) ((first ∷ further) ++ more)
parts_more s complete sequence rows parts first further more are others = record {
  sends = λ validity is.
      let same = validity_once s.settings.times.topology_hold s.settings.near_hold are.validity validity are.is_validity is in
      let part = one_part s validity complete sequence rows (first ∷ further)
      (subst (λ (v : List ℕ). SendsParts s v complete sequence (rows ∷ []) (first ∷ further)) same are.sends) in
      subst (λ (l : List Frame). SendsParts s validity complete sequence (rows ∷ parts) (l ++ more)) (sym part.are)
      (First_part part.tc part.bytes part.is_tc part.written (others.sends validity is));
  some = λ less. (are.validity, are.is_validity);
}

-- so many frames with the HELLOs of the interfaces from n on
abbrev pub AreHellosFrom : State → ℕ → ℕ → List Frame → Type 0
AreHellosFrom s n count fs = (length fs ≡ count) × ((k : ℕ) (f : Frame) → slice_get fs k ≡ Some f → IsHelloFrame s (n + k) f)

hellos_more : (s : State) (n count : ℕ) (f : Frame) (fs : List Frame) → IsHelloFrame s n f → AreHellosFrom s (n + 1) count fs →
    AreHellosFrom s n (suc count) (f ∷ fs)
hellos_more s n count f fs is (long, each) = (omega (arith, long), by) where
  by : (k : ℕ) (g : Frame) → slice_get (f ∷ fs) k ≡ Some g → IsHelloFrame s (n + k) g
  by zero g there =
      let same : f ≡ g = cc in
      let here : n ≡ n + 0 = omega arith in
      subst (λ (h : Frame). IsHelloFrame s (n + 0) h) same (subst (λ (i : ℕ). IsHelloFrame s i f) here is)
  by (suc k) g there =
      let further : (n + 1) + k ≡ n + suc k = omega arith in subst (λ (i : ℕ). IsHelloFrame s i g) further (each k g there)

module _ (x : ℕ) (s : State) (end : TracePosition) (done : IsDone end) where
  losses_left : (net : NetState) (left : List Item) (lost : List ℕ) (lines : List (List ℕ)) → slice_get net.routers x ≡ Some s →
      All (λ n. n < length net.scenario.arcs) lost → LeadsBy (at net x (map Lost lost ++ left)) lines end →
      Leaves (at net x left) end lines (flat_map (lost_line net.scenario s.last) lost)
  losses_left net left [] lines stood below leads = leaves_all (at net x left) end lines leads
  losses_left net left (n ∷ lost) lines stood below leads =
      let P : ℕ → Type 0 = λ k. k < length net.scenario.arcs in
      let items : List Item = map Lost lost ++ left in
      let next = next_line net x s (Lost n) items end lines done stood leads in
      let (is, net_is, none) = tells_loss net x s next.line n next.new next.more next.tells in
      let on = onward x items end next.others next.new net next.more [] net_is none next.leads in
      let one = lost_one net.scenario s.last n (All-head P n lost below) in
      leaves_on _ _ _ end lines _ _ (leaves_one _ end (lost_line net.scenario s.last n) next.line lines next.others one is next.whole on)
      (losses_left net left lost next.others stood (All-tail P n lost below) on)

  frame_left : (net : NetState) (left : List Item) (frame : Frame) (line : List ℕ) (lines others : List (List ℕ)) (new : NetState)
      (losses : List Item) → slice_get net.routers x ≡ Some s → lines ≡ line ∷ others →
      TellsFrame net x s frame line new losses → LeadsBy (at new x (losses ++ left)) others end →
      Emits net x s left end lines (λ fs. fs ≡ frame ∷ [])
  unfolding sent_lines
  frame_left net left frame line lines others new losses stood whole t leads =
      let e : Emission = record { iface = frame.iface; frame = frame.bytes; lost = t.lost } in
      let after = with_traffic net t.traffic in
      let on = onward x left end others new after losses (map Lost t.lost) t.leads t.losses_are leads in
      let below = All-head (λ (e : Emission). All (λ n. n < length net.scenario.arcs) e.lost) e []
      (sent_lost net.scenario s.last x (e ∷ []) net.traffic t.traffic (t.traffic, t.sends, refl)) in
      let text = sent_line s.last s.settings.name (face_name s.settings.interfaces frame.iface) frame.bytes in
      let first = leaves_one (at after x (map Lost t.lost ++ left)) end text line lines others
      (sent_one s.last s.settings frame.iface frame.bytes) t.line_is whole on in
      record {
        es = e ∷ [];
        after = t.traffic;
        are = refl;
        sends = (t.traffic, t.sends, refl);
        leaves = subst (λ (l : List ℕ). Leaves (at after x left) end lines l)
            (sym (append-nil (sent_lines net.scenario s.last s.settings e)))
            (leaves_on _ _ _ end lines text _ first (losses_left after left t.lost others stood below on));
      }

  pub frames_left : (net : NetState) (left : List Item) (fs : List Frame) (lines : List (List ℕ)) → slice_get net.routers x ≡ Some s →
      LeadsBy (at net x (map Sent fs ++ left)) lines end → Emits net x s left end lines (λ l. l ≡ fs)
  frames_left net left [] lines stood leads = emits_none net x s left end lines (λ l. l ≡ []) refl leads
  frames_left net left (f ∷ fs) lines stood leads =
      let items : List Item = map Sent fs ++ left in
      let next = next_line net x s (Sent f) items end lines done stood leads in
      let tells = tells_frame net x s next.line f next.new next.more next.tells in
      let one = frame_left net items f next.line lines next.others next.new next.more stood next.whole tells next.leads in
      emits_on net x s items left end lines (λ l. l ≡ f ∷ []) (λ l. l ≡ fs) (λ l. l ≡ f ∷ fs) one
      (frames_left (with_traffic net one.after) left fs one.leaves.rest stood one.leaves.leads) (λ a b h k. rw (h, k) refl)

  pub hellos_left : (net : NetState) (left : List Item) (faces : List Interface) (n : ℕ) (lines : List (List ℕ)) →
      slice_get net.routers x ≡ Some s → LeadsBy (at net x (map (λ f. Hello f.0) (enumerate_from n faces) ++ left)) lines end →
      Emits net x s left end lines (AreHellosFrom s n (length faces))
  hellos_left net left [] n lines stood leads = grind (arith, common_steps, emits_none)
  hellos_left net left (face ∷ faces) n lines stood leads =
      let P = AreHellosFrom s n (length (face ∷ faces)) in
      let items : List Item = map (λ f. Hello f.0) (enumerate_from (n + 1) faces) ++ left in
      let next = next_line net x s (Hello n) items end lines done stood leads in
      let t = tells_hello net x s next.line n next.new next.more next.tells in
      let one = frame_left net items t.frame next.line lines next.others next.new next.more stood next.whole t.tells next.leads in
      emits_on net x s items left end lines (λ l. l ≡ t.frame ∷ []) (AreHellosFrom s (n + 1) (length faces)) P one
      (hellos_left (with_traffic net one.after) left faces (n + 1) one.leaves.rest stood one.leaves.leads)
      (λ a b is more. subst (λ (l : List Frame). P (l ++ b)) (sym is) (hellos_more s n (length faces) t.frame b t.is more))

  pub parts_left : (net : NetState) (left : List Item) (complete : Bool) (sequence : ℕ) (parts : List (List TcRow)) (lines : List (List ℕ)) →
      slice_get net.routers x ≡ Some s → LeadsBy (at net x (part_items complete sequence parts ++ left)) lines end →
      Emits net x s left end lines (SendsWhole s complete sequence parts)
  parts_left net left complete sequence [] lines stood leads =
      emits_none net x s left end lines (SendsWhole s complete sequence [])
      (record { sends = λ validity is. No_part; some = λ less. absurd (omega (arith, less)) }) leads
  parts_left net left complete sequence (rows ∷ parts) lines stood leads =
      let P = SendsWhole s complete sequence (rows ∷ parts) in
      let items : List Item = part_items complete ((sequence + 1) % 65536) parts ++ left in
      let next = next_line net x s (Tc complete sequence rows) items end lines done stood leads in
      let t = tells_tc net x s next.line complete sequence rows next.new next.more next.tells in
      let further : List Item = map Sent t.further ++ items in
      let on : LeadsBy (at next.new x (t.losses ++ further)) next.others end =
      subst (λ (l : List Item). LeadsBy (at next.new x l) next.others end) (append_assoc t.losses (map Sent t.further) items)
      (onward x items end next.others next.new next.new next.more (t.losses ++ map Sent t.further) refl t.more_is next.leads) in
      let one = frame_left net further t.first next.line lines next.others next.new t.losses stood next.whole t.tells on in
      let same : List Frame → Type 0 = λ l. l ≡ t.first ∷ t.further in
      let each = emits_on net x s further items end lines (λ l. l ≡ t.first ∷ []) (λ l. l ≡ t.further) same one
      (frames_left (with_traffic net one.after) items t.further one.leaves.rest stood one.leaves.leads) (λ a b h k. rw (h, k) refl) in
      emits_on net x s items left end lines same (SendsWhole s complete ((sequence + 1) % 65536) parts) P each
      (parts_left (with_traffic net each.after) left complete ((sequence + 1) % 65536) parts each.leaves.rest stood each.leaves.leads)
      (λ a b is more. subst (λ (l : List Frame). P (l ++ b)) (sym is)
      (parts_more s complete sequence rows parts t.first t.further b t.are more))
