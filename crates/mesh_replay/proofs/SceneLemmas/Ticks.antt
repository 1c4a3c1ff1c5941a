-- The next event: which it is, and the line that opens it.
use Rattle.mesh_replay.proofs.Common.{common_steps, ◌≡◌, ℕ, ◌+◌, ◌<◌, List, length, [], refl, sym, subst, arith, Some, ◌≤◌, ◌∷◌, ◌++◌, ◌∙◌, ap, All, get_or, Bool, true, false, None, slice_get, min, IsTrue, MatchOption, Option, State, NetState, HasOnlyLastTicks, TicksNext, HearsNext, IsSender, IsFirstDue, IsOver, TicksBy, HearsBy, LineLeads, To_event, To_item, TracePosition, with_state, with_traffic, IsLineOf, same_at, tick_line, heard_line, at, FitsOrStops, OpensAlone, FindsNext, FindsNone, IsNextEvent, LandsFrame, set_here, item_at, All-head, All-tail, All-weaker, Addr4, Delivery, with_heard, face_name, slice_get-get_or, RouterSettings, due, arc_ends, first_and_others, Case, Progress, ComingFrame, NextEvent, FirstTick, Outcome, Fits, Delivered, delivery_of, IsCase, IsProgress, AreAtRest, Comes, IsSoundScene, net_of}
use Rattle.mesh_replay.specs.Traffic.Traffic.{HasTaken, SeededTraffic}
use Rattle.mesh_trace.specs.Positions.Events.{OpensTick, OpensEvent, By_delivery, By_tick, By_last_tick, OpensHearing}
use Rattle.mesh_trace.proofs.PositionsLemmas.EventsOnce.{due_once, not_tick, not_last, tick_not_last, behind_all as behind, sender_once}
use Rattle.mesh_atoms.specs.declared.settings.RadioArc.{RadioArc}
use Rattle.mesh_replay.specs.Checking.Ticking.{HasNoTickLeft, IsFoundTick, Due_first, At_end, outcome_of}
use Rattle.mesh_trace.specs.machine.Traffic as net

-- ---- The lines that open the next event: each leads on, and no other line does.

-- ---- The line of the tick that is next leads on, and no other line does.

-- router x ticks next at now, and then so many routers had their last tick
pub data IsTickNext (net : NetState) (x now last_ticks : ℕ) : Type 0 where
  Is_due : TicksNext net x now → last_ticks ≡ net.last_ticks → IsTickNext net x now last_ticks
  Is_last : HasOnlyLastTicks net → net.last_ticks < length net.routers → x ≡ net.last_ticks → now ≡ net.scenario.end →
      last_ticks ≡ net.last_ticks + 1 → IsTickNext net x now last_ticks

-- the tick that is next opens the next event
opens_next : (net : NetState) (x now l : ℕ) (line : List ℕ) (q : TracePosition) → IsTickNext net x now l → OpensTick net x now l line q → OpensEvent net line q
opens_next net x now l line q (Is_due next same) h = By_tick x now next (subst (λ (n : ℕ). OpensTick net x now n line q) same h)
opens_next net x now l line q (Is_last only some router moment last) h = grind (arith, common_steps)

-- and nothing else does
only_next : (net : NetState) (x now l : ℕ) (line : List ℕ) (q : TracePosition) → IsTickNext net x now l → OpensEvent net line q → OpensTick net x now l line q
only_next net x now l line q (Is_due next same) (By_delivery h) = absurd (not_tick net h.delivery h.others x now h.next next)
only_next net x now l line q (Is_due next same) (By_tick y moment other h) =
    let (router, moments) = due_once net.routers y x moment now other.first next.first in
    subst (λ (n : ℕ). OpensTick net x now n line q) (sym same)
    (subst (λ (n : ℕ). OpensTick net x n net.last_ticks line q) moments (subst (λ (n : ℕ). OpensTick net n moment net.last_ticks line q) router h))
only_next net x now l line q (Is_due next same) (By_last_tick only some h) = absurd (tick_not_last net x now next only)
only_next net x now l line q (Is_last only some router moment last) (By_delivery h) = absurd (not_last net h.delivery h.others h.next only)
only_next net x now l line q (Is_last only some router moment last) (By_tick y n next h) = absurd (tick_not_last net y n next only)
only_next net x now l line q (Is_last only some router moment last) (By_last_tick only' some' h) = grind (arith, common_steps)

-- where a tick is next, the run isn't over
not_over : (net : NetState) (x now l : ℕ) → IsTickNext net x now l → IsOver net → ⊥
not_over net x now l (Is_due next same) over = tick_not_last net x now next over.only
not_over net x now l (Is_last only some router moment last) over = let all = over.last_ticks in omega (arith, some, all)

-- its line leads on, however the tick leaves the router, and no other does
pub tick_opens : (net : NetState) (y x now l : ℕ) (was : State) → IsTickNext net x now l → slice_get net.routers x ≡ Some was →
    OpensAlone net y (tick_line now was.settings.name) x (TicksBy was now) (record net { last_ticks = l })
tick_opens net y x now l was next stands = record {
  leads = λ line is left told ticks. To_event refl (opens_next net x now l line (at (record (with_state net x is) { last_ticks = l }) x left) next
      (record { was = was; stands = stands; line_is = told; is = is; left = left; ticks = ticks; leads = refl }));
  only = only_tick;
  undone = λ done. not_over net x now l next done.over;
  stands = λ is. set_here net.routers x is was stands;
} where
  only_tick : (line : List ℕ) (q : TracePosition) → LineLeads (at net y []) line q → IsLineOf line (tick_line now was.settings.name)
  only_tick line q (To_event none opens) =
      let h = only_next net x now l line q next opens in
      subst (λ (s : State). IsLineOf line (tick_line now s.settings.name)) (same_at net.routers x h.was was h.stands stands) h.line_is
  only_tick line q (To_item left stood tells leads) = absurd cc

-- ---- The line of a frame that is heard next leads on, and no other line does.

-- ---- what is heard first is one frame

not_behind : (b c f : List Delivery) (d x e : Delivery) → d ∷ b ≡ x ∷ (c ++ e ∷ f) → All (λ z. d.moment ≤ z.moment) b → All (λ z. e.moment < z.moment) (x ∷ c) → ⊥
not_behind b c f d x e same q r =
    let moments : d.moment ≡ x.moment = (let heads : d ≡ x = cc in ap (λ (z : Delivery). z.moment) heads) in
    let tails : b ≡ c ++ e ∷ f = cc in
    let late : e.moment < x.moment = All-head (λ (z : Delivery). e.moment < z.moment) x c r in
    let early : d.moment ≤ e.moment = behind (λ (z : Delivery). d.moment ≤ z.moment) c f e (subst (All (λ (z : Delivery). d.moment ≤ z.moment)) tails q) in
    omega (arith, late, early, moments)

heard_once : (a b c f : List Delivery) (d e : Delivery) → a ++ d ∷ b ≡ c ++ e ∷ f → All (λ x. d.moment < x.moment) a → All (λ x. d.moment ≤ x.moment) b → All (λ x. e.moment < x.moment) c → All (λ x. e.moment ≤ x.moment) f → d ≡ e
heard_once [] b [] f d e same p q r t = cc
heard_once [] b (x ∷ c) f d e same p q r t = absurd (not_behind b c f d x e same q r)
heard_once (x ∷ a) b [] f d e same p q r t = absurd (not_behind f a b e x d (sym same) t p)
heard_once (x ∷ a) b (y ∷ c) f d e same p q r t =
    let tails : a ++ d ∷ b ≡ c ++ e ∷ f = cc in
    heard_once a b c f d e tails (All-tail (λ (z : Delivery). d.moment < z.moment) x a p) q (All-tail (λ (z : Delivery). e.moment < z.moment) y c r) t

next_once : (net : NetState) (d e : Delivery) (others more : List Delivery) → HearsNext net d others → HearsNext net e more → d ≡ e
next_once net d e others more h k = grind (arith, common_steps, heard_once)

-- ---- the frame that is heard next

pub record ComesNext (net : NetState) (d : Delivery) (others : List Delivery) (arc : RadioArc) (sender : Addr4) (was : State) : Type 0 where
  pub next : HearsNext net d others
  pub arc_is : slice_get net.scenario.arcs d.arc ≡ Some arc
  pub sender_is : IsSender net.scenario.routers arc sender
  pub stands : slice_get net.routers arc.to ≡ Some was

abbrev its_line : Delivery → RadioArc → Addr4 → State → List ℕ
its_line d arc sender was = heard_line d.moment was.settings.name (face_name was.settings.interfaces arc.to_iface) sender d.frame

module _ (net : NetState) (y : ℕ) (d : Delivery) (others : List Delivery) (arc : RadioArc) (sender : Addr4) (was : State) (comes : ComesNext net d others arc sender was) where
  opens_alone : (line : List ℕ) (after : TracePosition) → OpensHearing net line after → IsLineOf line (its_line d arc sender was)
  opens_alone line after h =
      let one : h.delivery ≡ d = next_once net h.delivery d h.others others h.next comes.next in
      let arcs : h.arc ≡ arc = same_at net.scenario.arcs d.arc h.arc arc (subst (λ (e : Delivery). slice_get net.scenario.arcs e.arc ≡ Some h.arc) one h.arc_is) comes.arc_is in
      let senders : h.sender ≡ sender = sender_once net.scenario.routers arc h.sender sender (subst (λ (a : RadioArc). IsSender net.scenario.routers a h.sender) arcs h.sender_is) comes.sender_is in
      let states : h.was ≡ was = same_at net.routers arc.to h.was was (subst (λ (a : RadioArc). slice_get net.routers a.to ≡ Some h.was) arcs h.stands) comes.stands in
      subst (λ (s : State). IsLineOf line (its_line d arc sender s)) states
      (subst (λ (o : Addr4). IsLineOf line (its_line d arc o h.was)) senders
      (subst (λ (a : RadioArc). IsLineOf line (its_line d a h.sender h.was)) arcs
      (subst (λ (e : Delivery). IsLineOf line (its_line e h.arc h.sender h.was)) one h.line_is)))

  heard_alone : (line : List ℕ) (after : TracePosition) → LineLeads (at net y []) line after → IsLineOf line (its_line d arc sender was)
  heard_alone line after (To_event none (By_delivery h)) = opens_alone line after h
  heard_alone line after (To_event none (By_tick x moment next h)) = absurd (not_tick net d others x moment comes.next next)
  heard_alone line after (To_event none (By_last_tick only some h)) = absurd (not_last net d others comes.next only)
  heard_alone line after (To_item left stands tells leads) = absurd cc

  -- its line leads on, however the frame leaves the router, and no other does
  pub heard_opens : OpensAlone net y (its_line d arc sender was) arc.to (HearsBy was (record { now = d.moment; iface = arc.to_iface; sender = sender }) d.frame) (with_traffic net (with_heard net.traffic others))
  heard_opens = record {
    leads = λ line is left line_is hears. To_event refl (By_delivery (record {
      delivery = d;
      others = others;
      arc = arc;
      sender = sender;
      next = comes.next;
      arc_is = comes.arc_is;
      sender_is = comes.sender_is;
      was = was;
      stands = comes.stands;
      line_is = line_is;
      is = is;
      left = left;
      hears = hears;
      leads = refl;
    }));
    only = heard_alone;
    undone = λ done. not_last net d others comes.next done.over.only;
    stands = λ is. set_here net.routers arc.to is was comes.stands;
  }

-- ---- The event that is next.

some_once : {A : Type 0} {a b : A} → Some a ≡ Some b → a ≡ b
some_once is = cc

-- what holds from the first due moment on holds of each
all_due : (P : ℕ → Type 0) (routers : List State) (x moment : ℕ) → IsFirstDue routers x moment → ((n : ℕ) → moment ≤ n → P n) → All (λ s. P (due s)) routers
all_due P routers x moment first more k s below = more (due (get_or routers k s)) (first.no_earlier k (get_or routers k s) (slice_get-get_or routers k s below))

module _ (case : Case) (routers : List State) (due : FirstTick) (last_ticks : ℕ) (progress : Progress) (sound : IsSoundScene case routers due last_ticks progress) where
  -- a frame that was taken comes by an arc of the scenario, and so do the others
  pub taken_arc : (d : net.Delivery) (new : net.Traffic) → HasTaken progress.traffic.traffic d new → d.arc < length case.scenario.now.arcs
  taken_arc d new taken = (first_and_others (λ d. d.arc < length case.scenario.now.arcs) progress.traffic.traffic.air d taken.others taken.first sound.progress_is.flying).0

  pub taken_progress : (d : net.Delivery) (traffic : SeededTraffic) → HasTaken progress.traffic.traffic d traffic.traffic → traffic.seed ≡ progress.traffic.seed →
      IsProgress case (record progress { traffic = traffic })
  taken_progress d traffic taken seed = record {
    reading = sound.progress_is.reading;
    seed = seed ∙ sound.progress_is.seed;
    flying = subst (λ (t : net.Traffic). All (λ (d : net.Delivery). d.arc < length case.scenario.now.arcs) t.air) (sym taken.left)
        (first_and_others (λ d. d.arc < length case.scenario.now.arcs) progress.traffic.traffic.air d taken.others taken.first sound.progress_is.flying).1;
  }

  -- it is heard next
  pub hearing_next : {new : net.Traffic} {landed : Delivered} {next : NextEvent} → HasTaken progress.traffic.traffic (delivery_of landed) new → landed.moment ≤ min due.moment case.scenario.now.end →
      LandsFrame case.scenario.now landed last_ticks next → IsNextEvent case (net_of case routers last_ticks progress) new next
  hearing_next {landed = landed} taken soon lands =
      let to = (arc_ends case.scenario.now landed.arc lands.arc lands.arc_is).1 in
      let most = case.scenario.now.end_in_range.most in
      let few = sound.few in
      let count = sound.kept.count in
      let whole = net_of case routers last_ticks progress in
      rw lands.next_is (record {
        settings = to.router;
        settings_are = to.stands;
        early = omega (arith, soon, most);
        few = omega (arith, few, count);
        comes = λ heard is. (ap (λ (h : ComingFrame). h.arrival.now) (sym (some_once is)), subst (λ (h : ComingFrame). h.arrival.iface < length to.router.interfaces) (some_once is) to.iface);
        opens = λ y was stands. rw taken.left (heard_opens whole y (delivery_of landed) taken.others lands.arc lands.sender was (record {
          next = record {
            first = taken.first;
            in_time = omega (arith, soon);
            before_ticks = all_due (λ m. landed.moment ≤ m) routers due.router due.moment sound.first (λ n later. omega (arith, later, soon));
          };
          arc_is = lands.arc_is;
          sender_is = lands.sender_is;
          stands = stands;
        }));
      })

  module _ (quiet : All (λ (d : net.Delivery). min due.moment case.scenario.now.end < d.moment) progress.traffic.traffic.air) where
    only_last : case.scenario.now.end < due.moment → HasOnlyLastTicks (net_of case routers last_ticks progress)
    only_last late = record {
      no_frames = All-weaker (λ (d : net.Delivery). min due.moment case.scenario.now.end < d.moment) (λ (d : net.Delivery). case.scenario.now.end < d.moment) (λ d later. omega (arith, later, late)) progress.traffic.traffic.air quiet;
      no_ticks = all_due (λ m. case.scenario.now.end < m) routers due.router due.moment sound.first (λ n later. omega (arith, later, late));
    }

    -- no event is left
    pub none_next : HasNoTickLeft case.scenario.now due last_ticks → IsOver (net_of case routers last_ticks progress)
    none_next (late, all) = record { only = only_last late; last_ticks = let few = sound.few in let count = sound.kept.count in omega (arith, all, few, count) }

    tick_event : (r : RouterSettings) (x now l : ℕ) → slice_get case.scenario.now.routers x ≡ Some r → now ≤ case.scenario.now.end → l ≤ length case.scenario.now.routers →
        IsTickNext (net_of case routers last_ticks progress) x now l → IsNextEvent case (net_of case routers last_ticks progress) progress.traffic.traffic (record { router = x; moment = now; heard = None; last_ticks = l })
    tick_event r x now l there in_time few next = record {
      settings = r;
      settings_are = there;
      early = let most = case.scenario.now.end_in_range.most in omega (arith, in_time, most);
      few = few;
      comes = λ heard is. absurd cc;
      opens = λ y was stands. tick_opens (net_of case routers last_ticks progress) y x now l was next stands;
    }

    -- where no frame is heard before it, the tick is next
    pub tick_next : {next : NextEvent} → IsFoundTick case.scenario.now due last_ticks next → IsNextEvent case (net_of case routers last_ticks progress) progress.traffic.traffic next
    tick_next (Due_first in_time is) =
        let few = sound.few in
        let count = sound.kept.count in
        rw is (tick_event sound.first.state.settings due.router due.moment last_ticks (sound.kept.settings due.router sound.first.state sound.first.stands) in_time (omega (arith, few, count)) (Is_due (record {
          first = sound.first;
          in_time = in_time;
          before_frames = All-weaker (λ (d : net.Delivery). min due.moment case.scenario.now.end < d.moment) (λ (d : net.Delivery). due.moment < d.moment) (λ d later. omega (arith, later, in_time)) progress.traffic.traffic.air quiet;
        }) refl))
    tick_next (At_end late some is) =
        let count = sound.kept.count in
        let (r, there) = item_at case.scenario.now.routers last_ticks some in
        rw is (tick_event r last_ticks case.scenario.now.end (last_ticks + 1) there (omega arith) (omega (arith, some)) (Is_last (only_last late) (omega (arith, some, count)) refl refl refl))

-- a tick that was found, where nothing was taken out of the air
pub found_next : (case : Case) (due : FirstTick) (last_ticks : ℕ) (progress : Progress) (traffic : SeededTraffic) (found : Option NextEvent) → All (λ (d : net.Delivery). min due.moment case.scenario.now.end < d.moment) progress.traffic.traffic.air →
    traffic ≡ progress.traffic → MatchOption found (HasNoTickLeft case.scenario.now due last_ticks) (IsFoundTick case.scenario.now due last_ticks) →
    MatchOption found (FindsNone case due last_ticks progress (record progress { traffic = traffic })) (FindsNext case due last_ticks progress (record progress { traffic = traffic }))
found_next case first last_ticks progress traffic None quiet same none = λ routers sound.
    (none_next case routers first last_ticks progress sound quiet none, ap (λ (t : SeededTraffic). let p : Progress = record progress { traffic = t } in p) same)
found_next case first last_ticks progress traffic (Some next) quiet same is = λ routers sound. rw same (tick_next case routers first last_ticks progress sound quiet is)

-- it is an event whose lines fit
fits_so : (fits : Bool) (outcome : Outcome) → outcome ≡ outcome_of fits → outcome ≡ Fits → IsTrue fits
fits_so fits outcome is fit = grind (arith, common_steps)

-- An event whose lines fit or not
module _ (case : Case) (new : Progress) (routers settled : List State) (due : FirstTick) (last_ticks count : ℕ) (fits : Bool) (outcome : Outcome) (is : outcome ≡ outcome_of fits) (same : settled ≡ routers) (counts : count ≡ last_ticks) where
  -- what comes of it
  pub comes_of : (old : Progress) (before : NetState) → ((x : ℕ) → (y : ℕ) × FitsOrStops case.trace.now old.reader new.reader (at before x []) (at (net_of case routers last_ticks new) y []) fits) →
      Comes case old new before (net_of case settled count new) outcome
  comes_of old before goes = rw (is, same, counts) (by_cases fits goes)
    where
      by_cases : (b : Bool) → ((x : ℕ) → (y : ℕ) × FitsOrStops case.trace.now old.reader new.reader (at before x []) (at (net_of case routers last_ticks new) y []) b) → Comes case old new before (net_of case routers last_ticks new) (outcome_of b)
      by_cases true goes = λ x. let (y, go) = goes x in (y, go.goes refl)
      by_cases false goes = λ x. (goes x).1.stops refl

  -- what is true after it
  pub sound_after : IsCase case → IsProgress case new → (IsTrue fits → AreAtRest case.scenario.now routers) → (IsTrue fits → IsFirstDue settled due.router due.moment) → last_ticks ≤ length case.scenario.now.routers →
      outcome ≡ Fits → IsSoundScene case settled due count new
  sound_after case_is progress_is kept first few fit =
      let yes = fits_so fits outcome is fit in
      let are : AreAtRest case.scenario.now settled = subst (AreAtRest case.scenario.now) (sym same) (kept yes) in
      record { case_is = case_is; progress_is = progress_is; kept = are; first = first yes; few = let all = are.count in omega (arith, all, counts, few) }
