-- Wherever lines lead, neighbours have addresses of 32 bits: HELLOs in the air name their senders so.
use Rattle.mesh_trace.proofs.Common.{common_steps, ◌≡◌, ◌⊎◌, ℕ, zero, suc, ◌+◌, ◌%◌, ◌<◌, ◌^◌, inl, inr, refl, sym, ◌∙◌, ap, subst, arith, List, [], ◌∷◌, ◌++◌, length, map, Option, Some, None, Contains, Bool, slice_get, slice_set, nat_eq, enumerate_from, Contains-append_cases, Contains-append_left, Contains-append_right, slice_get_within, Addr4, Hello, RadioArc, RouterSettings, Scenario, Tc, TcRow, Neighbour, BecomesOther, Joins, Remains, AfterHello, base_of, Told, Restores, LiveNeighbourhood, Neighbourhood, NotedMessages, Bases, State, neighbour_at, HelloAnswer, TakesHello, Breaks, Overfull, Overfull_two_hops, Takes, has_found, addr_equiv, same_addr, RawAddr, Span, MessageFields, SpellsMessage, Heading, Forward, Arrival, Fate, Frame, on_each, octets_at, IsHeading, ConsidersForwarding, ProcessesTc, Tc_taken, Tc_passed, TakesMessage, Hello_read, Hello_broken, Tc_read, Tc_broken, Other_passed, Other_left, TakesMessages, No_messages, First_message, AreSpelled, forwarding, Delivery, Traffic, Spreads, No_arcs, Loses, Carries, with_loss, with_delivery, with_sent, leaving, set_at, OriginatorIs, number_of, hopped, NetState, TakesPacket, HearsBy, Refused, Taken, HellosDue, Hellos_early, Hellos_due, TcsDue, Tcs_early, Tcs_silent, Tcs_due, part_items, TellsItem, Tells_flooding, Tells_routing, Tells_hello, Tells_tc, Tells_frame, Tells_loss, TellsFrame, PositionsHaveAddresses, OpensEvent, By_delivery, By_tick, By_last_tick, OpensTick, OpensHearing, Item, Flooding, Routing, Sent, Lost, TracePosition, IsFirstPosition, relay_items, LineLeads, To_event, To_item, LeadsBy, item_at as stands, contains_cases, contains_none as none_in, contains_map_cases as unmapped}
use Rattle.mesh_texts.specs.machine.flood.declared.verdict.Forward.TheVariants as forward
use Rattle.mesh_texts.proofs.machine.Hops.{limit_left}
use Rattle.mesh_texts.proofs.machine.Takes.{packet_spelled}
use Rattle.mesh_trace.specs.Positions.Standing.{Hello as Hello_item, Tc as Tc_item}
use Rattle.mesh_trace.proofs.PositionsLemmas.TcFrames.{one_part}
use Rattle.mesh_trace.proofs.PositionsLemmas.Named.{NamesSender, IsNamed, hello_named, tc_named, hopped_named}
use Rattle.mesh_trace.proofs.PositionsLemmas.SoundPositions.{positions_are_sound}
use Rattle.mesh_trace.proofs.PositionsLemmas.TcsFixed.{same_or_other}

-- ---- neighbours

abbrev HasBound : Neighbourhood → Type 0
HasBound near = (o : Addr4) (e : Neighbour × ℕ) → neighbour_at near o ≡ Some e → o.0 < 2 ^ 32

restored_was : (near : Neighbourhood) (now : ℕ) (x y : Option (Neighbour × ℕ)) → Restores near now x y → (e : Neighbour × ℕ) → y ≡ Some e → (f : Neighbour × ℕ) × (x ≡ Some f)
restored_was near now None y h e at = absurd (let no : None ≡ Some e = sym h ∙ at in cc)
restored_was near now (Some f) y h e at = (f, refl)

live_bound : (settings : RouterSettings) (now : ℕ) (old new : Neighbourhood) → LiveNeighbourhood settings now old new → HasBound old → HasBound new
live_bound settings now old new live bound o e at = let (f, was) = restored_was new now (neighbour_at old o) (neighbour_at new o) (live.neighbours o) e at in bound o f was

other_was : (near : Neighbourhood) (now : ℕ) (told : Told) (o : Addr4) (x y : Option (Neighbour × ℕ)) → BecomesOther near now told o x y → (e : Neighbour × ℕ) → y ≡ Some e → (f : Neighbour × ℕ) × (x ≡ Some f)
other_was near now told o x y (Joins f is matches none) e at = absurd (let no : None ≡ Some e = sym none ∙ at in cc)
other_was near now told o x y (Remains apart restores) e at = restored_was near now x y restores e at

after_bound : (settings : RouterSettings) (now i : ℕ) (told : Told) (hello : Hello) (old new : Neighbourhood) → AfterHello settings now i told hello old new → told.originator.0 < 2 ^ 32 → HasBound old → HasBound new
after_bound settings now i told hello old new after below bound o e at = grind (arith, common_steps, same_or_other, other_was)

originator_number : (x : Option RawAddr) (y : Option Addr4) (raw : RawAddr) (o : Addr4) → OriginatorIs x y → x ≡ Some raw → y ≡ Some o → o.0 ≡ number_of raw.octets
originator_number x y raw o h e f = subst (λ (z : Option Addr4). OriginatorIs (Some raw) z) f (subst (λ (z : Option RawAddr). OriginatorIs z y) e h)

no_originator : (x : Option RawAddr) (y : Option Addr4) (raw : RawAddr) → OriginatorIs x y → x ≡ Some raw → y ≡ None → ⊥
no_originator x y raw h e f = subst (λ (z : Option Addr4). OriginatorIs (Some raw) z) f (subst (λ (z : Option RawAddr). OriginatorIs z y) e h)

hello_bound : (settings : RouterSettings) (now i : ℕ) (sender : Addr4) (hello : Hello) (m : MessageFields) (old new : Neighbourhood) (answer : HelloAnswer) → OriginatorIs m.originator hello.originator → NamesSender m →
    TakesHello settings now i sender hello old new answer → HasBound old → HasBound new
hello_bound settings now i sender hello m old new answer is named (Breaks number fault) bound = bound
hello_bound settings now i sender hello m old new answer is named (Overfull told fault tells full) bound = bound
hello_bound settings now i sender hello m old new answer is named (Overfull_two_hops told fault tells few full) bound = bound
hello_bound settings now i sender hello m old new answer is named (Takes told fault tells few fits after) bound =
    after_bound settings now i told hello old new after (by tells.originator) bound
  where
    by : ((hello.originator ≡ Some told.originator) ⊎ ((hello.originator ≡ None) × Contains told.listed told.originator)) → told.originator.0 < 2 ^ 32
    by (inl some) = let same = originator_number m.originator hello.originator named.raw told.originator is named.is some in let below = named.below in omega (arith, same, below)
    by (inr (none, among)) = absurd (no_originator m.originator hello.originator named.raw is named.is none)

-- ---- what is forwarded

abbrev AllNamed : List Frame → Type 0
AllNamed frames = (f : Frame) → Contains frames f → IsNamed f.bytes

none_named : AllNamed []
none_named f among = absurd (none_in f among)

both_named : (a b : List Frame) → AllNamed a → AllNamed b → AllNamed (a ++ b)
both_named a b h k f among = elim (Contains-append_cases a b f among) [ inl x ↦ h f x | inr y ↦ k f y ]

one_named : (f : Frame) → IsNamed f.bytes → AllNamed (f ∷ [])
one_named f h g among = elim (contains_cases f [] g among) [ inl same ↦ subst (λ (x : Frame). IsNamed x.bytes) same h | inr past ↦ absurd (none_in g past) ]

each_named : (n : ℕ) (bytes : List ℕ) → IsNamed bytes → AllNamed (on_each n bytes)
each_named zero bytes h = none_named
each_named (suc n) bytes h = both_named (on_each n bytes) (record { iface = n; bytes = bytes } ∷ []) (each_named n bytes h) (one_named (record { iface = n; bytes = bytes }) h)

forwarding_named : (count : ℕ) (octets : List ℕ) (answer : Forward) → (answer ≡ forward.Do → IsNamed (0 ∷ hopped octets)) → AllNamed (forwarding count octets answer)
forwarding_named count octets forward.Do h = each_named count (0 ∷ hopped octets) (h refl)
forwarding_named count octets forward.NotFlooded h = none_named
forwarding_named count octets forward.Own h = none_named
forwarding_named count octets forward.NoSender h = none_named
forwarding_named count octets forward.NoHops h = none_named
forwarding_named count octets (forward.Seen until) h = none_named
forwarding_named count octets (forward.Full base) h = none_named
forwarding_named count octets (forward.Done until) h = none_named
forwarding_named count octets forward.NotSelector h = none_named

module _ (settings : RouterSettings) (own : Addr4) (arrival : Arrival) where
  considers_named : (m : MessageFields) (heading : Heading) (octets : List ℕ) (done : Bool) (old : Bases) (noted : NotedMessages) (sent : List Frame) (answer : Forward) → SpellsMessage m octets → (m.kind ≡ 0 → ⊥) → IsHeading m heading →
      ConsidersForwarding settings own arrival heading octets done old noted sent answer → AllNamed sent
  considers_named m heading octets done old noted sent answer spelled other is h =
      subst AllNamed (sym h.sends) (forwarding_named (length settings.interfaces) octets answer (λ done_so.
      let (limit, limit_is, above) = limit_left own heading h.link (base_of old.noted.received arrival.iface) old.noted.forwarded (sym h.answered ∙ done_so) in
      hopped_named m octets limit spelled (sym is.limit ∙ limit_is) other))

  record MessageBound (new : Bases) (sent : List Frame) : Type 0 where
    near : HasBound new.neighbourhood
    named : AllNamed sent

  tc_bound : (m : MessageFields) (octets : List ℕ) (tc : Tc) (heading : Heading) (old new : Bases) (sent : List Frame) (fate : Fate) → SpellsMessage m octets → (m.kind ≡ 0 → ⊥) → IsHeading m heading →
      ProcessesTc settings own arrival old tc heading octets new sent fate → HasBound old.neighbourhood → MessageBound new sent
  tc_bound m octets tc heading old new sent fate spelled other is (Tc_taken {noted} {sent = s} {onward} due takes considers) bound =
      record { near = bound; named = considers_named m heading octets _ old noted s onward spelled other is considers }
  tc_bound m octets tc heading old new sent fate spelled other is (Tc_passed {noted} {sent = s} {onward} apart considers) bound =
      record { near = bound; named = considers_named m heading octets _ old noted s onward spelled other is considers }

  message_bound : (m : MessageFields) (octets : List ℕ) (old new : Bases) (sent : List Frame) (fate : Fate) → SpellsMessage m octets → (m.kind ≡ 0 → NamesSender m) → TakesMessage settings own arrival old m octets new sent fate →
      HasBound old.neighbourhood → MessageBound new sent
  message_bound m octets old new sent fate spelled named (Hello_read {near} {answer} hello kind keeps reads takes) bound =
      record { near = hello_bound settings arrival.now arrival.iface arrival.sender hello m old.neighbourhood near answer reads.originator (named kind) takes bound; named = none_named }
  message_bound m octets old new sent fate spelled named (Hello_broken net kind broken) bound = record { near = bound; named = none_named }
  message_bound m octets old new sent fate spelled named (Tc_read {new = new'} {sent = s} {fate = f} tc heading kind keeps reads is process) bound =
      tc_bound m octets tc heading old new' s f spelled (λ zeroth. omega (arith, zeroth, kind)) is process bound
  message_bound m octets old new sent fate spelled named (Tc_broken net kind broken) bound = record { near = bound; named = none_named }
  message_bound m octets old new sent fate spelled named (Other_passed {noted} {sent = s} {onward} heading not_hello not_tc is considers) bound =
      record { near = bound; named = considers_named m heading octets _ old noted s onward spelled not_hello is considers }
  message_bound m octets old new sent fate spelled named (Other_left not_hello not_tc none) bound = record { near = bound; named = none_named }

  messages_bound : (bytes : List ℕ) (old : Bases) (messages : List MessageFields) (spans : List Span) (new : Bases) (sent : List Frame) (fates : List Fate) → AreSpelled bytes messages spans →
      ((m : MessageFields) → Contains messages m → m.kind ≡ 0 → NamesSender m) → TakesMessages settings own arrival bytes old messages spans new sent fates → HasBound old.neighbourhood → MessageBound new sent
  messages_bound bytes old messages spans new sent fates spelled named No_messages bound = record { near = bound; named = none_named }
  messages_bound bytes old messages spans new sent fates spelled named
      (First_message {mid} {message} {messages = rest} {span} {spans = ends} {sent = one} {more} {fate} {fates = others} takes takes_rest) bound =
      let first = message_bound message (octets_at bytes span) old mid one fate (spelled.each 0 message span refl refl).1 (named message (0, omega arith, refl)) takes bound in
      let behind = messages_bound bytes mid rest ends new more others (record { count = let h = spelled.count in omega (arith, h); each = λ i m s at there. spelled.each (suc i) m s at there })
      (λ m (k, within, is). named m (suc k, omega (arith, within), is)) takes_rest first.near in
      record { near = behind.near; named = both_named one more first.named behind.named }

-- ---- positions

record IsNamedPosition (p : TracePosition) : Type 0 where
  near : (x : ℕ) (s : State) → slice_get p.net.routers x ≡ Some s → HasBound s.bases.neighbourhood
  air : (d : Delivery) → Contains p.net.traffic.air d → IsNamed d.frame
  left : (f : Frame) → Contains p.left (Sent f) → IsNamed f.bytes

-- items without frames
abbrev NoFrames : List Item → Type 0
NoFrames items = (f : Frame) → Contains items (Sent f) → ⊥

none_left : NoFrames []
none_left f among = none_in (Sent f) among

both_left : (a b : List Item) → NoFrames a → NoFrames b → NoFrames (a ++ b)
both_left a b h k f among = elim (Contains-append_cases a b (Sent f) among) [ inl x ↦ h f x | inr y ↦ k f y ]

relays_left : (r : RouterSettings) → NoFrames (relay_items r)
relays_left r = both_left (map (λ f. Flooding f.0) (enumerate_from 0 r.interfaces)) (Routing ∷ [])
    (λ f among. (let (z, has, is) = unmapped (λ f. Flooding f.0) (enumerate_from 0 r.interfaces) (Sent f) among in cc))
    (λ f among. elim (contains_cases Routing [] (Sent f) among) [ inl is ↦ cc | inr past ↦ none_in (Sent f) past ])

hellos_left : (old new : State) (items : List Item) → HellosDue old new items → NoFrames items
hellos_left old new items (Hellos_early early next) = none_left
hellos_left old new items (Hellos_due due next) = λ f among. (let (z, has, is) = unmapped (λ f. Hello_item f.0) (enumerate_from 0 new.settings.interfaces) (Sent f) among in cc)

parts_left : (complete : Bool) (sequence : ℕ) (parts : List (List TcRow)) → NoFrames (part_items complete sequence parts)
parts_left complete sequence [] f among = none_left f among
parts_left complete sequence (rows ∷ parts) f among = elim (contains_cases (Tc_item complete sequence rows) (part_items complete ((sequence + 1) % 65536) parts) (Sent f) among) [
  | inl is ↦ cc
  | inr more ↦ parts_left complete ((sequence + 1) % 65536) parts f more
]

tcs_left : (old new : State) (items : List Item) → TcsDue old new items → NoFrames items
tcs_left old new items (Tcs_early early next sequence) = none_left
tcs_left old new items (Tcs_silent due next silent sequence) = none_left
tcs_left old new items (Tcs_due due next has parts are sequence) = parts_left (nat_eq (length parts) 1) old.sequence parts

set_bound : (routers : List State) (x : ℕ) (new : State) → ((y : ℕ) (s : State) → slice_get routers y ≡ Some s → HasBound s.bases.neighbourhood) → HasBound new.bases.neighbourhood →
    (y : ℕ) (s : State) → slice_get (slice_set routers x new) y ≡ Some s → HasBound s.bases.neighbourhood
set_bound routers x new all is y s at = grind (arith, common_steps, set_at)

-- ---- one event

tick_named : (p : TracePosition) (x now last_ticks : ℕ) (line : List ℕ) (q : TracePosition) → IsNamedPosition p → OpensTick p.net x now last_ticks line q → IsNamedPosition q
tick_named p x now last_ticks line q named h =
    let t = h.ticks in
    subst IsNamedPosition (sym h.leads) (record {
      near = set_bound p.net.routers x h.is named.near (subst (λ (b : Bases). HasBound b.neighbourhood) (sym t.follows.bases_are)
          (live_bound h.was.settings now h.was.bases.neighbourhood t.live.neighbourhood t.is_live.neighbourhood (named.near x h.was h.stands)));
      air = named.air;
      left = λ f among. absurd (both_left (relay_items h.is.settings) (t.hellos ++ t.tcs) (relays_left h.is.settings)
          (both_left t.hellos t.tcs (hellos_left h.was h.is t.hellos t.are_hellos) (tcs_left h.was h.is t.tcs t.are_tcs)) f (subst (λ (l : List Item). Contains l (Sent f)) t.whole among));
    })

record HearsBound (new : State) (left : List Item) : Type 0 where
  near : HasBound new.bases.neighbourhood
  left_named : (f : Frame) → Contains left (Sent f) → IsNamed f.bytes

takes_bound : (old : State) (arrival : Arrival) (bytes : List ℕ) (sent : List Frame) (new : State) → HasBound old.bases.neighbourhood → IsNamed bytes → TakesPacket old arrival bytes sent new → HearsBound new (relay_items new.settings ++ map Sent sent)
takes_bound old arrival bytes sent new bound named t =
    let done = messages_bound old.settings t.own arrival bytes t.live t.packet.messages t.spans t.bases sent t.fates (packet_spelled bytes t.packet t.spans t.spelled) (named t.packet t.spans t.spelled) t.takes
    (live_bound old.settings arrival.now old.bases.neighbourhood t.live.neighbourhood t.is_live.neighbourhood bound) in
    record {
      near = subst (λ (b : Bases). HasBound b.neighbourhood) (sym t.follows.bases_are) done.near;
      left_named = λ f among. elim (Contains-append_cases (relay_items new.settings) (map Sent sent) (Sent f) among) [
        | inl relay ↦ absurd (relays_left new.settings f relay)
        | inr frame ↦ (let (g, has, is) = unmapped Sent sent (Sent f) frame in let same : g ≡ f = cc in subst (λ (z : Frame). IsNamed z.bytes) same (done.named g has))
      ];
    }

hears_bound : (old : State) (arrival : Arrival) (bytes : List ℕ) (new : State) (left : List Item) → HasBound old.bases.neighbourhood → IsNamed bytes → HearsBy old arrival bytes new left → HearsBound new left
hears_bound old arrival bytes new left bound named (Refused place reason fault) = record { near = bound; left_named = λ f among. absurd (none_left f among) }
hears_bound old arrival bytes new left bound named (Taken {sent} takes) = takes_bound old arrival bytes sent new bound named takes

hearing_named : (p : TracePosition) (line : List ℕ) (q : TracePosition) → IsNamedPosition p → OpensHearing p.net line q → IsNamedPosition q
hearing_named p line q named h =
    let first = h.next.first in
    let there : Contains p.net.traffic.air h.delivery =
    subst (λ (l : List Delivery). Contains l h.delivery) (sym first.whole) (Contains-append_right first.before (h.delivery ∷ first.behind) h.delivery (0, omega arith, refl)) in
    let done = hears_bound h.was _ h.delivery.frame h.is h.left (named.near h.arc.to h.was h.stands) (named.air h.delivery there) h.hears in
    subst IsNamedPosition (sym h.leads) (record {
      near = set_bound p.net.routers h.arc.to h.is named.near done.near;
      air = λ d among. named.air d (subst (λ (l : List Delivery). Contains l d) (sym first.whole) (others first.before first.behind h.delivery d (subst (λ (l : List Delivery). Contains l d) first.left among)));
      left = done.left_named;
    })
  where
    others : (a b : List Delivery) (e d : Delivery) → Contains (a ++ b) d → Contains (a ++ e ∷ b) d
    others a b e d among = elim (Contains-append_cases a b d among) [
      | inl x ↦ Contains-append_left a (e ∷ b) d x
      | inr y ↦ Contains-append_right a (e ∷ b) d (Contains-append_right (e ∷ []) b d y)
    ]

opens_named : (p : TracePosition) (line : List ℕ) (q : TracePosition) → IsNamedPosition p → OpensEvent p.net line q → IsNamedPosition q
opens_named p line q named (By_delivery h) = hearing_named p line q named h
opens_named p line q named (By_tick x moment next h) = tick_named p x moment p.net.last_ticks line q named h
opens_named p line q named (By_last_tick only some h) = tick_named p p.net.last_ticks p.net.scenario.end (p.net.last_ticks + 1) line q named h

-- ---- one item

spread_air : (s : Scenario) (now : ℕ) (frame : List ℕ) (arcs : List (ℕ × RadioArc)) (lost : List ℕ) (old new : Traffic) → Spreads s now frame arcs lost old new → IsNamed frame →
    ((d : Delivery) → Contains old.air d → IsNamed d.frame) → (d : Delivery) → Contains new.air d → IsNamed d.frame
spread_air s now frame [] lost old new No_arcs named air = air
spread_air s now frame (a ∷ arcs) (n ∷ lost) old new (Loses loses rest) named air = spread_air s now frame arcs lost (with_loss old) new rest named air
spread_air s now frame (a ∷ arcs) lost old new (Carries carries rest) named air =
    let one : Delivery = record { moment = now + a.1.delay; arc = a.0; frame = frame } in
    spread_air s now frame arcs lost (with_delivery old one) new rest named (λ d among. elim (Contains-append_cases old.air (one ∷ []) d among) [
      | inl x ↦ air d x
      | inr y ↦ elim (contains_cases one [] d y) [ inl same ↦ subst (λ (z : Delivery). IsNamed z.frame) same named | inr past ↦ absurd (none_in d past) ]
    ])

-- what a line that tells an item leaves
record TellsNamed (routers : List State) (new : NetState) (more : List Item) : Type 0 where
  near : (x : ℕ) (s : State) → slice_get new.routers x ≡ Some s → HasBound s.bases.neighbourhood
  air : (d : Delivery) → Contains new.traffic.air d → IsNamed d.frame
  left : (f : Frame) → Contains more (Sent f) → IsNamed f.bytes

losses_left : (lost : List ℕ) → NoFrames (map Lost lost)
losses_left lost f among = let (z, has, is) = unmapped Lost lost (Sent f) among in cc

module _ (p : TracePosition) (named : IsNamedPosition p) (s : State) (stood : slice_get p.net.routers p.router ≡ Some s) (line : List ℕ) where
  frame_named : (frame : Frame) (new : NetState) (losses : List Item) → IsNamed frame.bytes → TellsFrame p.net p.router s frame line new losses → TellsNamed p.net.routers new losses
  frame_named frame new losses good h =
      subst (λ (n : NetState). TellsNamed p.net.routers n losses) (sym h.leads) (record {
        near = named.near;
        air = spread_air p.net.scenario s.last frame.bytes (leaving p.net.scenario.arcs p.router frame.iface) h.lost (with_sent p.net.traffic) h.traffic h.sends good named.air;
        left = λ f among. absurd (losses_left h.lost f (subst (λ (l : List Item). Contains l (Sent f)) h.losses_are among));
      })

  tells_named : (item : Item) (new : NetState) (more : List Item) → ((f : Frame) → item ≡ Sent f → IsNamed f.bytes) → TellsItem p.net p.router s line item new more → TellsNamed p.net.routers new more
  tells_named item new more good (Tells_flooding face relays g at graph are is) =
      record { near = set_bound p.net.routers p.router _ named.near (named.near p.router s stood); air = named.air; left = λ f among. absurd (none_left f among) }
  tells_named item new more good (Tells_routing relays g graph are is) =
      record { near = set_bound p.net.routers p.router _ named.near (named.near p.router s stood); air = named.air; left = λ f among. absurd (none_left f among) }
  tells_named item new more good (Tells_hello frame is tells) =
      let (o, at, originator) = is.is_now.originator in
      frame_named frame new more (hello_named is.hello frame.bytes o originator is.written) tells
  tells_named item new more good (Tells_tc {complete} {sequence} {rows} {losses} first further are tells) =
      let part = one_part s are.validity complete sequence rows (first ∷ further) are.sends in
      let fine = tc_named part.tc s.settings.times.tc_hop_limit are.validity part.bytes part.written in
      let each : AllNamed (first ∷ further) = subst AllNamed (sym part.are) (each_named (length s.settings.interfaces) part.bytes fine) in
      let told = frame_named first new losses (each first (0, omega arith, refl)) tells in
      record {
        near = told.near;
        air = told.air;
        left = λ f among. elim (Contains-append_cases losses (map Sent further) (Sent f) among) [
          | inl x ↦ told.left f x
          | inr y ↦ (let (g, has, is) = unmapped Sent further (Sent f) y in let same : g ≡ f = cc in
              subst (λ (z : Frame). IsNamed z.bytes) same (each g (Contains-append_right (first ∷ []) further g has)))
        ];
      }
  tells_named item new more good (Tells_frame {frame} tells) = frame_named frame new more (good frame refl) tells
  tells_named item new more good (Tells_loss is) = record { near = named.near; air = named.air; left = λ f among. absurd (none_left f among) }

leads_named : (p : TracePosition) (line : List ℕ) (q : TracePosition) → IsNamedPosition p → LineLeads p line q → IsNamedPosition q
leads_named p line q named (To_event none opens) = opens_named p line q named opens
leads_named p line q named (To_item {s} {item} {rest} {more} {net} left stood tells leads) =
    let here : (f : Frame) → Contains (item ∷ rest) (Sent f) → IsNamed f.bytes = λ f among. named.left f (subst (λ (l : List Item). Contains l (Sent f)) (sym left) among) in
    let told = tells_named p named s stood line item net more (λ f is. here f (0, omega arith, is)) tells in
    subst IsNamedPosition (sym leads) (record {
      near = told.near;
      air = told.air;
      left = λ f among. elim (Contains-append_cases more rest (Sent f) among) [
        | inl x ↦ told.left f x
        | inr y ↦ here f (Contains-append_right (item ∷ []) rest (Sent f) y)
      ];
    })

leads_by_named : (p : TracePosition) (lines : List (List ℕ)) (q : TracePosition) → IsNamedPosition p → LeadsBy p lines q → IsNamedPosition q
leads_by_named p [] q named same = subst IsNamedPosition (sym same) named
leads_by_named p (line ∷ lines) q named (mid, one, more) = leads_by_named mid lines q (leads_named p line mid named one) more

first_named : (s : Scenario) (p : TracePosition) → IsFirstPosition s p → IsNamedPosition p
first_named s p h = record {
  near = λ x state at.
      (let below : x < length s.routers = let l = slice_get_within p.net.routers x state at in let c = h.opening.count in omega (arith, l, c) in
      let (settings, there) = stands s.routers x below in
      let bases = (h.opening.opening x settings state there at).bases in
      λ o e is. absurd (let no : None ≡ Some e = sym (ap (λ (b : Bases). neighbour_at b.neighbourhood o) bases) ∙ is in cc));
  air = λ d among. absurd (none_in d (subst (λ (t : Traffic). Contains t.air d) h.opening.traffic among));
  left = λ f among. absurd (none_in (Sent f) (subst (λ (l : List Item). Contains l (Sent f)) h.none among));
}

pub positions_have_addresses : PositionsHaveAddresses
positions_have_addresses s lines p (first, is, leads) =
    let named = leads_by_named first lines p (first_named s first is) leads in
    let sound = positions_are_sound s lines p (first, is, leads) in
    record {
      addresses = λ x state at o n has.
          let near = (sound.sound x state at).neighbourhood in
          let (until, found) = (has_found addr_equiv same_addr state.bases.neighbourhood.neighbours o n near.distinct_neighbours).0 has.0 in
          named.near x state at o (n, until) found;
    }
