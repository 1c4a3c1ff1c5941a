-- One line tells one event, which leaves one position but for the order of tuples.
use Rattle.mesh_trace.proofs.Common.{common_steps, ◌≡◌, ℕ, ◌+◌, ◌%◌, ◌<◌, ◌≤◌, refl, sym, ◌∙◌, ap, subst, arith, List, [], ◌∷◌, ◌++◌, length, map, Some, All, slice_get, nat_eq, All-head, All-tail, Addr4, RadioArc, RouterSettings, TcRow, AreParts, Bases, State, Span, PacketFields, one_packet, not_both, Arrival, Frame, due, TakesMessages, IsNextAnsn, IsEmptied, HasToAdvertise, IsNextMoment, live_bases_sound, Delivery, with_heard, same_at, NetState, IsFirstDue, HearsNext, TicksNext, HasOnlyLastTicks, IsSender, AlikeBases, AlikeStates, Alike, Follows, TakesPacket, HearsBy, Refused, Taken, HellosDue, TcsDue, Tcs_early, Tcs_silent, Tcs_due, TicksBy, part_items, OpensHearing, OpensTick, OpensEvent, By_delivery, By_tick, By_last_tick, Item, Sent, TracePosition, relay_items, with_state, with_traffic, one_originator}
use Rattle.mesh_trace.proofs.PositionsLemmas.AlikeBases.{bases_itself, bases_back, live_only}
use Rattle.mesh_trace.proofs.PositionsLemmas.AlikeNets.{AlikeNets, states_itself, nets_set}
use Rattle.mesh_trace.proofs.PositionsLemmas.AlikeStates.{holds_by, rows_only}
use Rattle.mesh_trace.proofs.PositionsLemmas.MessagesFixed.{messages_are_fixed}
use Rattle.mesh_trace.proofs.PositionsLemmas.Over.{all_at, all_behind}
use Rattle.mesh_trace.proofs.PositionsLemmas.Parts.{moment_once, parts_once}
use Rattle.mesh_trace.proofs.PositionsLemmas.SoundPositions.{SoundState, AreSound, takes_sound, ticks_sound}

-- ---- which event comes next

-- what is heard first is one frame
record SameFirst (d e : Delivery) (a b a' b' : List Delivery) : Type 0 where
  first : d ≡ e
  left : a ++ b ≡ a' ++ b'

pub behind_all : (P : Delivery → Type 0) (before behind : List Delivery) (e : Delivery) → All P (before ++ e ∷ behind) → P e
behind_all P before behind e all = All-head P e behind (all_behind P before (e ∷ behind) all)

first_once : (a b a' b' : List Delivery) (d e : Delivery) → a ++ d ∷ b ≡ a' ++ e ∷ b' → All (λ x. d.moment < x.moment) a → All (λ x. d.moment ≤ x.moment) b → All (λ x. e.moment < x.moment) a' → All (λ x. e.moment ≤ x.moment) b' →
    SameFirst d e a b a' b'
first_once [] b [] b' d e same p q p' q' = record { first = cc; left = cc }
first_once [] b (x ∷ a') b' d e same p q p' q' = grind (arith, common_steps, All-head, behind_all)
first_once (x ∷ a) b [] b' d e same p q p' q' = grind (arith, common_steps, All-head, behind_all)
first_once (x ∷ a) b (y ∷ a') b' d e same p q p' q' =
    let heads : x ≡ y = cc in
    let tails : a ++ d ∷ b ≡ a' ++ e ∷ b' = cc in
    let P : Delivery → Type 0 = λ z. d.moment < z.moment in
    let Q : Delivery → Type 0 = λ z. e.moment < z.moment in
    let rest = first_once a b a' b' d e tails (All-tail P x a p) q (All-tail Q y a' p') q' in
    record { first = rest.first; left = ap (λ (z : Delivery). z ∷ (a ++ b)) heads ∙ ap (λ (l : List Delivery). y ∷ l) rest.left }

-- the router that is due first is one
pub due_once : (routers : List State) (x y m n : ℕ) → IsFirstDue routers x m → IsFirstDue routers y n → (x ≡ y) × (m ≡ n)
due_once routers x y m n h k = grind (arith, common_steps)

-- ---- one router

ansn_once : (old a b : State) → b.rows ≡ a.rows → IsNextAnsn old a → IsNextAnsn old b → b.ansn ≡ a.ansn
ansn_once old a b rows h4 h5 = grind (arith, common_steps)

emptied_once : (old a b : State) → b.rows ≡ a.rows → b.last ≡ a.last → IsEmptied old a → IsEmptied old b → b.emptied ≡ a.emptied
emptied_once old a b rows last h5 h6 = grind (arith, common_steps)

-- what follows from bases that are alike
record FollowsOnce (a b : State) : Type 0 where
  settings : b.settings ≡ a.settings
  bases : AlikeBases a.bases b.bases
  relays : b.relays ≡ a.relays
  rows : b.rows ≡ a.rows
  ansn : b.ansn ≡ a.ansn
  emptied : b.emptied ≡ a.emptied
  last : b.last ≡ a.last

follows_once : (old : State) (now : ℕ) (one other : Bases) (a b : State) → AlikeBases one other → SoundState a → SoundState b → Follows old now one a → Follows old now other b → FollowsOnce a b
follows_once old now one other a b alike sound sound' h k =
    let settings : b.settings ≡ a.settings = k.settings ∙ sym h.settings in
    let relays : b.relays ≡ a.relays = k.relays ∙ sym h.relays in
    let bases : AlikeBases a.bases b.bases = subst (λ (z : Bases). AlikeBases z b.bases) (sym h.bases_are) (subst (λ (z : Bases). AlikeBases one z) (sym k.bases_are) alike) in
    let back : AlikeBases b.bases a.bases = bases_back a.bases b.bases bases in
    let last : b.last ≡ a.last = k.last ∙ sym h.last in
    let rows : b.rows ≡ a.rows =
    sym (rows_only a b (holds_by a b sound.neighbourhood sound'.neighbourhood settings relays bases.neighbourhood)
    (holds_by b a sound'.neighbourhood sound.neighbourhood (sym settings) (sym relays) back.neighbourhood) a.rows b.rows h.rows k.rows) in
    record {
      settings = settings;
      bases = bases;
      relays = relays;
      rows = rows;
      ansn = ansn_once old a b rows h.ansn k.ansn;
      emptied = emptied_once old a b rows last h.emptied k.emptied;
      last = last;
    }

-- ---- ticks

hellos_once : (old a b : State) (one other : List Item) → FollowsOnce a b → HellosDue old a one → HellosDue old b other → (other ≡ one) × (b.next_hello ≡ a.next_hello)
hellos_once old a b one other same h6 h7 = grind (arith, common_steps, moment_once)

has_too : (a b : State) → FollowsOnce a b → HasToAdvertise a → HasToAdvertise b
has_too a b same h3 = grind (arith, common_steps)

back_once : (a b : State) → FollowsOnce a b → FollowsOnce b a
back_once a b h = record { settings = sym h.settings; bases = bases_back a.bases b.bases h.bases; relays = sym h.relays; rows = sym h.rows; ansn = sym h.ansn; emptied = sym h.emptied; last = sym h.last }

record TcsOnce (a b : State) (one other : List Item) : Type 0 where
  items : other ≡ one
  next : b.next_tc ≡ a.next_tc
  sequence : b.sequence ≡ a.sequence

next_tc_once : (a b : State) → FollowsOnce a b → IsNextMoment a.settings.tc_at a.settings.times.tc a.last a.next_tc → IsNextMoment b.settings.tc_at b.settings.times.tc b.last b.next_tc → b.next_tc ≡ a.next_tc
next_tc_once a b same next next' = grind (arith, common_steps, moment_once)

tcs_once : (old a b : State) (one other : List Item) → FollowsOnce a b → TcsDue old a one → TcsDue old b other → TcsOnce a b one other
tcs_once old a b one other same (Tcs_early early next seq) (Tcs_early early' next' seq') = record { items = refl; next = next' ∙ sym next; sequence = seq' ∙ sym seq }
tcs_once old a b one other same (Tcs_early early next seq) (Tcs_silent due next' silent seq') = absurd (let l = same.last in omega (arith, early, due, l))
tcs_once old a b one other same (Tcs_early early next seq) (Tcs_due due next' has parts are seq') = absurd (let l = same.last in omega (arith, early, due, l))
tcs_once old a b one other same (Tcs_silent due next silent seq) (Tcs_early early next' seq') = absurd (let l = same.last in omega (arith, early, due, l))
tcs_once old a b one other same (Tcs_silent due next silent seq) (Tcs_silent due' next' silent' seq') = record { items = refl; next = next_tc_once a b same next next'; sequence = seq' ∙ sym seq }
tcs_once old a b one other same (Tcs_silent due next silent seq) (Tcs_due due' next' has parts are seq') = absurd (silent (has_too b a (back_once a b same) has))
tcs_once old a b one other same (Tcs_due due next has parts are seq) (Tcs_early early next' seq') = absurd (let l = same.last in omega (arith, early, due, l))
tcs_once old a b one other same (Tcs_due due next has parts are seq) (Tcs_silent due' next' silent seq') = absurd (silent (has_too a b same has))
tcs_once old a b one other same (Tcs_due due next has parts are seq) (Tcs_due due' next' has' parts' are' seq') =
    let are'' : AreParts a.settings.tc_rows a.rows parts' =
    subst (λ (l : List TcRow). AreParts a.settings.tc_rows l parts') same.rows (subst (λ (r : RouterSettings). AreParts r.tc_rows b.rows parts') same.settings are') in
    let some : 0 < a.settings.tc_rows = let range = a.settings.rows_in_range in omega (arith, range.at_least) in
    let cut : parts' ≡ parts = parts_once a.settings.tc_rows some a.rows parts' parts are'' are in
    record {
      items = ap (λ (l : List (List TcRow)). part_items (nat_eq (length l) 1) old.sequence l) cut;
      next = next_tc_once a b same next next';
      sequence = seq' ∙ (ap (λ (l : List (List TcRow)). (old.sequence + length l) % 65536) cut ∙ sym seq);
    }

record StatesOnce (a b : State) (one other : List Item) : Type 0 where
  alike : AlikeStates a b
  left : other ≡ one

ticks_once : (s : State) (now : ℕ) (a b : State) (one other : List Item) → SoundState s → TicksBy s now a one → TicksBy s now b other → StatesOnce a b one other
ticks_once s now a b one other sound h k =
    let live = live_only s.settings now s.bases s.bases h.live k.live (bases_itself s.bases) h.is_live k.is_live in
    let same = follows_once s now h.live k.live a b live (ticks_sound s now a one sound h) (ticks_sound s now b other sound k) h.follows k.follows in
    let (hellos, next_hello) = hellos_once s a b h.hellos k.hellos same h.are_hellos k.are_hellos in
    let tcs = tcs_once s a b h.tcs k.tcs same h.are_tcs k.are_tcs in
    record {
      alike = record {
        settings = same.settings;
        bases = same.bases;
        relays = same.relays;
        rows = same.rows;
        ansn = same.ansn;
        emptied = same.emptied;
        sequence = tcs.sequence;
        next_hello = next_hello;
        next_tc = tcs.next;
        last = same.last;
      };
      left = k.whole ∙ (ap (λ (r : RouterSettings). relay_items r ++ (k.hellos ++ k.tcs)) same.settings
          ∙ (ap (λ (l : List Item). relay_items a.settings ++ (l ++ k.tcs)) hellos ∙ (ap (λ (l : List Item). relay_items a.settings ++ (h.hellos ++ l)) tcs.items ∙ sym h.whole)));
    }

-- ---- frames

takes_once : (s : State) (arrival : Arrival) (bytes : List ℕ) (one other : List Frame) (a b : State) → SoundState s → TakesPacket s arrival bytes one a → TakesPacket s arrival bytes other b →
    AlikeStates a b × (other ≡ one)
takes_once s arrival bytes one other a b sound h k =
    let (packets, spans) = one_packet bytes k.packet h.packet k.spans h.spans k.spelled h.spelled in
    let own : k.own ≡ h.own = one_originator s.settings k.own h.own k.is_own h.is_own in
    let live = live_only s.settings arrival.now s.bases s.bases h.live k.live (bases_itself s.bases) h.is_live k.is_live in
    let takes : TakesMessages s.settings h.own arrival bytes k.live h.packet.messages h.spans k.bases other k.fates =
    subst (λ (o : Addr4). TakesMessages s.settings o arrival bytes k.live h.packet.messages h.spans k.bases other k.fates) own
    (subst (λ (l : List Span). TakesMessages s.settings k.own arrival bytes k.live h.packet.messages l k.bases other k.fates) spans
    (subst (λ (p : PacketFields). TakesMessages s.settings k.own arrival bytes k.live p.messages k.spans k.bases other k.fates) packets k.takes)) in
    let (bases, sent) = messages_are_fixed s.settings h.own arrival bytes h.packet.messages h.spans h.live k.live h.bases k.bases one other h.fates k.fates h.is_own
    (live_bases_sound s.settings s.last arrival.now s.bases h.live sound h.is_live) (live_bases_sound s.settings s.last arrival.now s.bases k.live sound k.is_live) live h.takes takes in
    let same = follows_once s arrival.now h.bases k.bases a b bases (takes_sound s arrival bytes one a sound h) (takes_sound s arrival bytes other b sound k) h.follows k.follows in (
      record {
        settings = same.settings;
        bases = same.bases;
        relays = same.relays;
        rows = same.rows;
        ansn = same.ansn;
        emptied = same.emptied;
        sequence = k.sequence ∙ sym h.sequence;
        next_hello = k.next_hello ∙ sym h.next_hello;
        next_tc = k.next_tc ∙ sym h.next_tc;
        last = same.last;
      },
      sent,
    )

hears_once : (s : State) (arrival : Arrival) (bytes : List ℕ) (a b : State) (one other : List Item) → SoundState s → HearsBy s arrival bytes a one → HearsBy s arrival bytes b other → StatesOnce a b one other
hears_once s arrival bytes a b one other sound (Refused place reason fault) (Refused place' reason' fault') = record { alike = states_itself s; left = refl }
hears_once s arrival bytes a b one other sound (Refused place reason fault) (Taken takes) = absurd (not_both bytes takes.packet takes.spans place reason takes.spelled fault)
hears_once s arrival bytes a b one other sound (Taken takes) (Refused place reason fault) = absurd (not_both bytes takes.packet takes.spans place reason takes.spelled fault)
hears_once s arrival bytes a b one other sound (Taken {sent} h) (Taken {sent = more} k) =
    let (alike, same) = takes_once s arrival bytes sent more a b sound h k in
    record {
      alike = alike;
      left = ap (λ (r : RouterSettings). relay_items r ++ map Sent more) alike.settings ∙ ap (λ (l : List Frame). relay_items a.settings ++ map Sent l) same;
    }

-- ---- the line

pub nets_itself : (n : NetState) → AlikeNets n n
nets_itself n = grind (arith, common_steps, same_at, states_itself)

tick_once : (net : NetState) (x now last_ticks : ℕ) (line : List ℕ) (p q : TracePosition) → AreSound net.routers → OpensTick net x now last_ticks line p → OpensTick net x now last_ticks line q → Alike p q
tick_once net x now last_ticks line p q sound h k =
    let was : k.was ≡ h.was = same_at net.routers x k.was h.was k.stands h.stands in
    let once = ticks_once h.was now h.is k.is h.left k.left (sound x h.was h.stands) h.ticks (subst (λ (z : State). TicksBy z now k.is k.left) was k.ticks) in
    let set = nets_set net net x h.is k.is (nets_itself net) once.alike in
    subst (λ (z : TracePosition). Alike z q) (sym h.leads)
    (subst (λ (z : TracePosition). Alike (record { net = record (with_state net x h.is) { last_ticks = last_ticks }; router = x; left = h.left }) z) (sym k.leads)
    (record { scenario = set.scenario; count = set.count; routers = set.routers; traffic = set.traffic; last_ticks = refl; router = refl; left = once.left }))

pub sender_once : (routers : List RouterSettings) (arc : RadioArc) (a b : Addr4) → IsSender routers arc a → IsSender routers arc b → a ≡ b
sender_once routers arc a b h k = grind (arith, common_steps, same_at)

hearing_once : (net : NetState) (line : List ℕ) (p q : TracePosition) → AreSound net.routers → OpensHearing net line p → OpensHearing net line q → Alike p q
hearing_once net line p q sound h k =
    let f = h.next.first in
    let g = k.next.first in
    let one = first_once g.before g.behind f.before f.behind k.delivery h.delivery (sym g.whole ∙ f.whole) g.later g.no_earlier f.later f.no_earlier in
    let others : k.others ≡ h.others = g.left ∙ (one.left ∙ sym f.left) in
    let arc : k.arc ≡ h.arc = same_at net.scenario.arcs h.delivery.arc k.arc h.arc (subst (λ (d : Delivery). slice_get net.scenario.arcs d.arc ≡ Some k.arc) one.first k.arc_is) h.arc_is in
    let sender : k.sender ≡ h.sender = sender_once net.scenario.routers h.arc k.sender h.sender (subst (λ (a : RadioArc). IsSender net.scenario.routers a k.sender) arc k.sender_is) h.sender_is in
    let was : k.was ≡ h.was = same_at net.routers h.arc.to k.was h.was (subst (λ (a : RadioArc). slice_get net.routers a.to ≡ Some k.was) arc k.stands) h.stands in
    let arrival : Arrival = record { now = h.delivery.moment; iface = h.arc.to_iface; sender = h.sender } in
    let hears : HearsBy h.was arrival h.delivery.frame k.is k.left =
    subst (λ (z : State). HearsBy z arrival h.delivery.frame k.is k.left) was
    (subst (λ (z : Addr4). HearsBy k.was (record { now = h.delivery.moment; iface = h.arc.to_iface; sender = z }) h.delivery.frame k.is k.left) sender
    (subst (λ (a : RadioArc). HearsBy k.was (record { now = h.delivery.moment; iface = a.to_iface; sender = k.sender }) h.delivery.frame k.is k.left) arc
    (subst (λ (d : Delivery). HearsBy k.was (record { now = d.moment; iface = k.arc.to_iface; sender = k.sender }) d.frame k.is k.left) one.first k.hears))) in
    let once = hears_once h.was arrival h.delivery.frame h.is k.is h.left k.left (sound h.arc.to h.was h.stands) h.hears hears in
    let set = nets_set net net h.arc.to h.is k.is (nets_itself net) once.alike in
    let here : TracePosition = record { net = with_traffic (with_state net h.arc.to h.is) (with_heard net.traffic h.others); router = h.arc.to; left = h.left } in
    let there : q ≡ record { net = with_traffic (with_state net h.arc.to k.is) (with_heard net.traffic h.others); router = h.arc.to; left = k.left } =
    k.leads ∙ (ap (λ (a : RadioArc). let z : TracePosition = record { net = with_traffic (with_state net a.to k.is) (with_heard net.traffic k.others); router = a.to; left = k.left } in z) arc
    ∙ ap (λ (l : List Delivery). let z : TracePosition = record { net = with_traffic (with_state net h.arc.to k.is) (with_heard net.traffic l); router = h.arc.to; left = k.left } in z) others) in
    subst (λ (z : TracePosition). Alike z q) (sym h.leads)
    (subst (λ (z : TracePosition). Alike here z) (sym there)
    (record { scenario = set.scenario; count = set.count; routers = set.routers; traffic = refl; last_ticks = set.last_ticks; router = refl; left = once.left }))

-- a frame isn't next where a tick is, nor is either where only last ticks are left
pub not_tick : (net : NetState) (d : Delivery) (others : List Delivery) (x moment : ℕ) → HearsNext net d others → TicksNext net x moment → ⊥
not_tick net d others x moment h k =
    let early : d.moment ≤ due k.first.state = all_at (λ (s : State). d.moment ≤ due s) net.routers x k.first.state h.before_ticks k.first.stands in
    let late : moment < d.moment = behind_all (λ (e : Delivery). moment < e.moment) h.first.before h.first.behind d (subst (All (λ (e : Delivery). moment < e.moment)) h.first.whole k.before_frames) in
    let is = k.first.is in
    omega (arith, early, late, is)

pub not_last : (net : NetState) (d : Delivery) (others : List Delivery) → HearsNext net d others → HasOnlyLastTicks net → ⊥
not_last net d others h k = grind (arith, common_steps, behind_all)

pub tick_not_last : (net : NetState) (x moment : ℕ) → TicksNext net x moment → HasOnlyLastTicks net → ⊥
tick_not_last net x moment h k =
    let late : net.scenario.end < due h.first.state = all_at (λ (s : State). net.scenario.end < due s) net.routers x h.first.state k.no_ticks h.first.stands in
    let early = h.in_time in
    let is = h.first.is in
    omega (arith, early, late, is)

pub opens_once : (net : NetState) (line : List ℕ) (p q : TracePosition) → AreSound net.routers → OpensEvent net line p → OpensEvent net line q → Alike p q
opens_once net line p q sound (By_delivery h) (By_delivery k) = hearing_once net line p q sound h k
opens_once net line p q sound (By_delivery h) (By_tick x moment next k) = absurd (not_tick net h.delivery h.others x moment h.next next)
opens_once net line p q sound (By_delivery h) (By_last_tick only some k) = absurd (not_last net h.delivery h.others h.next only)
opens_once net line p q sound (By_tick x moment next h) (By_delivery k) = absurd (not_tick net k.delivery k.others x moment k.next next)
opens_once net line p q sound (By_tick x moment next h) (By_tick y other next' k) =
    let (same, moments) = due_once net.routers y x other moment next'.first next.first in
    tick_once net x moment net.last_ticks line p q sound h
    (subst (λ (n : ℕ). OpensTick net x n net.last_ticks line q) moments (subst (λ (z : ℕ). OpensTick net z other net.last_ticks line q) same k))
opens_once net line p q sound (By_tick x moment next h) (By_last_tick only some k) = absurd (tick_not_last net x moment next only)
opens_once net line p q sound (By_last_tick only some h) (By_delivery k) = absurd (not_last net k.delivery k.others k.next only)
opens_once net line p q sound (By_last_tick only some h) (By_tick x moment next k) = absurd (tick_not_last net x moment next only)
opens_once net line p q sound (By_last_tick only some h) (By_last_tick only' some' k) =
    tick_once net net.last_ticks net.scenario.end (net.last_ticks + 1) line p q sound h k
