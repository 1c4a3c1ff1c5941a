-- The event that comes next at a network comes next at each that is alike, and does the same to its router.
use Rattle.mesh_trace.proofs.Common.{common_steps, ◌≡◌, ℕ, ◌+◌, ◌%◌, ◌<◌, ◌≤◌, min, refl, sym, ◌∙◌, ap, subst, arith, List, length, Some, All, slice_get, nat_eq, slice_get_within, get_or_from_slice_get, RouterSettings, Scenario, Live, Bases, State, IsOriginator, Arrival, Frame, due, TakesMessages, IsNextAnsn, IsEmptied, Traffic, Delivery, IsHeardFirst, with_heard, face_name, heard_line, tick_line, NetState, IsFirstDue, HearsNext, TicksNext, HasOnlyLastTicks, IsSender, AlikeStates, Alike, Follows, TakesPacket, HearsBy, Refused, Taken, HellosDue, Hellos_early, Hellos_due, TcsDue, Tcs_early, Tcs_silent, Tcs_due, TicksBy, part_items, IsLineOf, OpensHearing, OpensTick, OpensEvent, By_delivery, By_tick, By_last_tick, Item, TracePosition, with_state, with_traffic, item_at as stands}
use Rattle.mesh_trace.proofs.PositionsLemmas.AlikeBases.{live_from}
use Rattle.mesh_trace.proofs.PositionsLemmas.AlikeNets.{AlikeNets, states_itself, nets_set}
use Rattle.mesh_trace.proofs.PositionsLemmas.AlikeStates.{states_back}
use Rattle.mesh_trace.proofs.PositionsLemmas.Over.{all_at}

-- ---- which event comes next

pub nets_back : (m n : NetState) → AlikeNets m n → AlikeNets n m
nets_back m n h = record {
  scenario = sym h.scenario;
  count = sym h.count;
  routers = λ x s t at at'. states_back t s (h.routers x t s at' at);
  traffic = sym h.traffic;
  last_ticks = sym h.last_ticks;
}

-- the router of that number in the other network
pub record RouterAlso (n : NetState) (x : ℕ) (s : State) : Type 0 where
  pub t : State
  pub stands : slice_get n.routers x ≡ Some t
  pub alike : AlikeStates s t

pub router_also : (m n : NetState) → AlikeNets m n → (x : ℕ) (s : State) → slice_get m.routers x ≡ Some s → RouterAlso n x s
router_also m n nets x s at =
    let below : x < length n.routers = let h = slice_get_within m.routers x s at in let k = nets.count in omega (arith, h, k) in
    let (t, there) = stands n.routers x below in
    record { t = t; stands = there; alike = nets.routers x s t at there }

due_same : (s t : State) → AlikeStates s t → due t ≡ due s
due_same s t h = ap (λ (k : ℕ). min k t.next_tc) h.next_hello ∙ ap (λ (k : ℕ). min s.next_hello k) h.next_tc

-- what holds of each moment at which a router is due
each_due : (P : ℕ → Type 0) (m n : NetState) → AlikeNets m n → All (λ s. P (due s)) m.routers → (x : ℕ) (t : State) → slice_get n.routers x ≡ Some t → P (due t)
each_due P m n nets all x t at =
    let one = router_also n m (nets_back m n nets) x t at in
    subst P (due_same t one.t one.alike) (all_at (λ (s : State). P (due s)) m.routers x one.t all one.stands)

all_due : (P : ℕ → Type 0) (m n : NetState) → AlikeNets m n → All (λ s. P (due s)) m.routers → All (λ s. P (due s)) n.routers
all_due P m n nets all i d within =
    let (t, at) = stands n.routers i within in
    subst (λ (s : State). P (due s)) (sym (get_or_from_slice_get n.routers i t d at)) (each_due P m n nets all i t at)

first_due_from : (m n : NetState) → AlikeNets m n → (x moment : ℕ) → IsFirstDue m.routers x moment → IsFirstDue n.routers x moment
first_due_from m n nets x moment h =
    let here = router_also m n nets x h.state h.stands in
    let back = nets_back m n nets in
    record {
      state = here.t;
      stands = here.stands;
      is = h.is ∙ sym (due_same h.state here.t here.alike);
      no_earlier = λ y v at. (let one = router_also n m back y v at in subst (λ (k : ℕ). moment ≤ k) (due_same v one.t one.alike) (h.no_earlier y one.t one.stands));
      later = λ y v at less. (let one = router_also n m back y v at in subst (λ (k : ℕ). moment < k) (due_same v one.t one.alike) (h.later y one.t one.stands less));
    }

hears_next_from : (m n : NetState) → AlikeNets m n → (d : Delivery) (others : List Delivery) → HearsNext m d others → HearsNext n d others
hears_next_from m n nets d others h = record {
  first = subst (λ (t : Traffic). IsHeardFirst t.air d others) (sym nets.traffic) h.first;
  in_time = subst (λ (c : Scenario). d.moment ≤ c.end) (sym nets.scenario) h.in_time;
  before_ticks = all_due (λ k. d.moment ≤ k) m n nets h.before_ticks;
}

ticks_next_from : (m n : NetState) → AlikeNets m n → (x moment : ℕ) → TicksNext m x moment → TicksNext n x moment
ticks_next_from m n nets x moment h = record {
  first = first_due_from m n nets x moment h.first;
  in_time = subst (λ (c : Scenario). moment ≤ c.end) (sym nets.scenario) h.in_time;
  before_frames = subst (λ (t : Traffic). All (λ d. moment < d.moment) t.air) (sym nets.traffic) h.before_frames;
}

pub last_ticks_from : (m n : NetState) → AlikeNets m n → HasOnlyLastTicks m → HasOnlyLastTicks n
last_ticks_from m n nets h = record {
  no_frames = subst (λ (c : Scenario). All (λ d. c.end < d.moment) n.traffic.air) (sym nets.scenario) (subst (λ (t : Traffic). All (λ d. m.scenario.end < d.moment) t.air) (sym nets.traffic) h.no_frames);
  no_ticks = subst (λ (c : Scenario). All (λ s. c.end < due s) n.routers) (sym nets.scenario) (all_due (λ k. m.scenario.end < k) m n nets h.no_ticks);
}

-- ---- what it does to its router

module _ (s t : State) (h : AlikeStates s t) where
  ansn_from : (new : State) → IsNextAnsn s new → IsNextAnsn t new
  ansn_from new h1 = grind (arith, common_steps)

  emptied_from : (new : State) → IsEmptied s new → IsEmptied t new
  emptied_from new h1 = grind (arith, common_steps)

  follows_from : (now : ℕ) (bases : Bases) (new : State) → Follows s now bases new → Follows t now bases new
  follows_from now bases new f = grind (arith, common_steps, ansn_from, emptied_from)

  live_too : (now : ℕ) (live : Bases) → Live s.settings now s.bases live → Live t.settings now t.bases live
  live_too now live is = subst (λ (r : RouterSettings). Live r now t.bases live) (sym h.settings) (live_from s.settings now s.bases t.bases live h.bases is)

  takes_from : (arrival : Arrival) (bytes : List ℕ) (sent : List Frame) (new : State) → TakesPacket s arrival bytes sent new → TakesPacket t arrival bytes sent new
  takes_from arrival bytes sent new x = record {
    packet = x.packet;
    spans = x.spans;
    spelled = x.spelled;
    own = x.own;
    is_own = subst (λ (r : RouterSettings). IsOriginator r x.own) (sym h.settings) x.is_own;
    live = x.live;
    is_live = live_too arrival.now x.live x.is_live;
    bases = x.bases;
    fates = x.fates;
    takes = subst (λ (r : RouterSettings). TakesMessages r x.own arrival bytes x.live x.packet.messages x.spans x.bases sent x.fates) (sym h.settings) x.takes;
    follows = follows_from arrival.now x.bases new x.follows;
    sequence = x.sequence ∙ sym h.sequence;
    next_hello = x.next_hello ∙ sym h.next_hello;
    next_tc = x.next_tc ∙ sym h.next_tc;
  }

  hellos_from : (new : State) (hellos : List Item) → HellosDue s new hellos → HellosDue t new hellos
  hellos_from new hellos (Hellos_early early next) = Hellos_early (subst (λ (k : ℕ). new.last < k) (sym h.next_hello) early) (next ∙ sym h.next_hello)
  hellos_from new hellos (Hellos_due due next) = Hellos_due (subst (λ (k : ℕ). k ≤ new.last) (sym h.next_hello) due) next

  tcs_from : (new : State) (tcs : List Item) → TcsDue s new tcs → TcsDue t new tcs
  tcs_from new tcs (Tcs_early early next sequence) = Tcs_early (subst (λ (k : ℕ). new.last < k) (sym h.next_tc) early) (next ∙ sym h.next_tc) (sequence ∙ sym h.sequence)
  tcs_from new tcs (Tcs_silent due next silent sequence) = Tcs_silent (subst (λ (k : ℕ). k ≤ new.last) (sym h.next_tc) due) next silent (sequence ∙ sym h.sequence)
  tcs_from new tcs (Tcs_due due next has parts are sequence) =
      subst (λ (k : ℕ). TcsDue t new (part_items (nat_eq (length parts) 1) k parts)) h.sequence
      (Tcs_due (subst (λ (k : ℕ). k ≤ new.last) (sym h.next_tc) due) next has parts are (sequence ∙ ap (λ (k : ℕ). (k + length parts) % 65536) (sym h.sequence)))

  ticks_from : (now : ℕ) (new : State) (left : List Item) → TicksBy s now new left → TicksBy t now new left
  ticks_from now new left x = record {
    live = x.live;
    is_live = live_too now x.live x.is_live;
    follows = follows_from now x.live new x.follows;
    hellos = x.hellos;
    are_hellos = hellos_from new x.hellos x.are_hellos;
    tcs = x.tcs;
    are_tcs = tcs_from new x.tcs x.are_tcs;
    whole = x.whole;
  }

record HearsAlso (t : State) (arrival : Arrival) (bytes : List ℕ) (after : State) (left : List Item) : Type 0 where
  new : State
  hears : HearsBy t arrival bytes new left
  alike : AlikeStates after new

hears_from : (s t : State) → AlikeStates s t → (arrival : Arrival) (bytes : List ℕ) (new : State) (left : List Item) → HearsBy s arrival bytes new left → HearsAlso t arrival bytes new left
hears_from s t h arrival bytes new left (Refused place reason fault) = record { new = t; hears = Refused place reason fault; alike = h }
hears_from s t h arrival bytes new left (Taken {sent} takes) = record { new = new; hears = Taken (takes_from s t h arrival bytes sent new takes); alike = states_itself new }

-- ---- the line

pub record OpensAlso (n : NetState) (line : List ℕ) (after : TracePosition) : Type 0 where
  pub new : TracePosition
  pub opens : OpensEvent n line new
  pub alike : Alike after new

record TickAlso (n : NetState) (x now last_ticks : ℕ) (line : List ℕ) (after : TracePosition) : Type 0 where
  new : TracePosition
  opens : OpensTick n x now last_ticks line new
  alike : Alike after new

tick_from : (m n : NetState) → AlikeNets m n → (x now last_ticks : ℕ) (line : List ℕ) (after : TracePosition) → OpensTick m x now last_ticks line after → TickAlso n x now last_ticks line after
tick_from m n nets x now last_ticks line after h =
    let here = router_also m n nets x h.was h.stands in
    let set = nets_set m n x h.is h.is nets (states_itself h.is) in
    record {
      new = record { net = record (with_state n x h.is) { last_ticks = last_ticks }; router = x; left = h.left };
      opens = record {
        was = here.t;
        stands = here.stands;
        line_is = subst (λ (r : RouterSettings). IsLineOf line (tick_line now r.name)) (sym here.alike.settings) h.line_is;
        is = h.is;
        left = h.left;
        ticks = ticks_from h.was here.t here.alike now h.is h.left h.ticks;
        leads = refl;
      };
      alike = subst (λ (p : TracePosition). Alike p (record { net = record (with_state n x h.is) { last_ticks = last_ticks }; router = x; left = h.left })) (sym h.leads)
          (record { scenario = set.scenario; count = set.count; routers = set.routers; traffic = set.traffic; last_ticks = refl; router = refl; left = refl });
    }

hearing_from : (m n : NetState) → AlikeNets m n → (line : List ℕ) (after : TracePosition) → OpensHearing m line after → OpensAlso n line after
hearing_from m n nets line after h =
    let here = router_also m n nets h.arc.to h.was h.stands in
    let arrival : Arrival = record { now = h.delivery.moment; iface = h.arc.to_iface; sender = h.sender } in
    let also = hears_from h.was here.t here.alike arrival h.delivery.frame h.is h.left h.hears in
    let set = nets_set m n h.arc.to h.is also.new nets also.alike in
    let new : TracePosition = record { net = with_traffic (with_state n h.arc.to also.new) (with_heard n.traffic h.others); router = h.arc.to; left = h.left } in
    record {
      new = new;
      opens = By_delivery (record {
        delivery = h.delivery;
        others = h.others;
        arc = h.arc;
        sender = h.sender;
        next = hears_next_from m n nets h.delivery h.others h.next;
        arc_is = subst (λ (c : Scenario). slice_get c.arcs h.delivery.arc ≡ Some h.arc) (sym nets.scenario) h.arc_is;
        sender_is = subst (λ (c : Scenario). IsSender c.routers h.arc h.sender) (sym nets.scenario) h.sender_is;
        was = here.t;
        stands = here.stands;
        line_is = subst (λ (r : RouterSettings). IsLineOf line (heard_line h.delivery.moment r.name (face_name r.interfaces h.arc.to_iface) h.sender h.delivery.frame)) (sym here.alike.settings) h.line_is;
        is = also.new;
        left = h.left;
        hears = also.hears;
        leads = refl;
      });
      alike = subst (λ (p : TracePosition). Alike p new) (sym h.leads) (record {
        scenario = set.scenario;
        count = set.count;
        routers = set.routers;
        traffic = ap (λ (t : Traffic). with_heard t h.others) nets.traffic;
        last_ticks = set.last_ticks;
        router = refl;
        left = refl;
      });
    }

pub opens_from : (m n : NetState) → AlikeNets m n → (line : List ℕ) (after : TracePosition) → OpensEvent m line after → OpensAlso n line after
opens_from m n nets line after (By_delivery h) = hearing_from m n nets line after h
opens_from m n nets line after (By_tick x moment next h) =
    let also = tick_from m n nets x moment m.last_ticks line after h in
    record {
      new = also.new;
      opens = By_tick x moment (ticks_next_from m n nets x moment next) (subst (λ (k : ℕ). OpensTick n x moment k line also.new) (sym nets.last_ticks) also.opens);
      alike = also.alike;
    }
opens_from m n nets line after (By_last_tick only some h) =
    let also = tick_from m n nets m.last_ticks m.scenario.end (m.last_ticks + 1) line after h in
    let few : n.last_ticks < length n.routers = let a = nets.last_ticks in let b = nets.count in omega (arith, some, a, b) in
    record {
      new = also.new;
      opens = By_last_tick (last_ticks_from m n nets only) few
          (subst (λ (c : Scenario). OpensTick n n.last_ticks c.end (n.last_ticks + 1) line also.new) (sym nets.scenario)
          (subst (λ (k : ℕ). OpensTick n k m.scenario.end (k + 1) line also.new) (sym nets.last_ticks) also.opens));
      alike = also.alike;
    }
