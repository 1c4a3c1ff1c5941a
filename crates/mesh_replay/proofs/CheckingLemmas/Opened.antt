-- The next event: its line, and what follows it.
use Rattle.mesh_replay.proofs.Common.{common_steps, ◌≡◌, ℕ, List, [], ◌++◌, refl, sym, ◌∙◌, subst, Bool, true, false, ◌<◌, map, length, get_or, arith, ◌∷◌, append-nil, set-set, Some, inl, inr, slice_get, slice_set, Relays, AreRelays, State, HasAddresses, Item, relay_items, TracePosition, with_state, with_traffic, Case, CheckedEvent, Progress, EventLines, MayBeIn, IsProgress, LeadsPast, TellsItems, BeginsEvent, IsSoundRouter, event_items, sent_items, with_relays, AreAtRest, IsAtRest, HasRelays, IsBegun, StopsRelays, length-map, slice_get_read, slice_get_within, RouterSettings, Scenario, rows_stay, NetState, Traffic, Reader, Reaches, mapped_at, same_at, set_at, leads_on as walks_on, ComingFrame, NextEvent, at, FitsOrStops, EventBy, IsComing, IsNextEvent, OpensAlone, opening_text, IsReachedNet, net_of, TakesText}
use Rattle.mesh_replay.specs.Checking.Ending.{EndsEvent, MayBegin, TellsWholeEvent, KeepsRouters}
use Rattle.mesh_replay.proofs.CheckingLemmas.Telling.{leads_before, leads_not, leads_nowhere, leads_on, went_one, stops_here, goes_on, goes_not}
use Rattle.mesh_trace.proofs.PositionsLemmas.Addresses.{positions_have_addresses}
use Rattle.mesh_trace.proofs.PositionsLemmas.AlikeNets.{set_length}

-- ---- The next event, which its line opens.

-- the next line is another
opened_not : {net after : NetState} {y x : ℕ} {text : List ℕ} {By : State → List Item → Type 0} {trace : List ℕ} {old new : Reader} {reads : Bool} → OpensAlone net y text x By after →
    TakesText trace old new text reads → (q : TracePosition) → reads ≡ false → FitsOrStops trace old new (at net y []) q false
opened_not opens takes q bad = goes_not (stops_here (takes.still bad)
    (λ line lines p there leads. takes.other bad (record { line = line; lines = lines; next = there; is = opens.only line p leads })) opens.undone)

-- it was taken, and so was what follows
opened_on : {net after : NetState} {y : ℕ} {text : List ℕ} {By : State → List Item → Type 0} {case : Case} {old : Reader} {mid new : Progress} {event : CheckedEvent} {t : State} {reads fits : Bool} →
    OpensAlone net y text event.router By after → TakesText case.trace.now old mid.reader text reads → reads ≡ true → EndsEvent case mid new event By t fits → after.scenario ≡ case.scenario.now → after.traffic ≡ mid.traffic.traffic →
    FitsOrStops case.trace.now old new.reader (at net y []) (at (with_traffic (with_state after event.router t) new.traffic.traffic) event.router []) fits
opened_on {after = after} {case = case} {mid = mid} {new = new} {event = event} {t = t} {fits = fits} opens takes good ends scenario flights =
    let took = takes.takes good in
    let there = with_state after event.router ends.is in
    let told = ends.tells.leads.leads there [] (record { scenario = scenario; traffic = flights; stands = opens.stands ends.is }) in
    goes_on (went_one took (opens.leads took.line ends.is ends.left took.is ends.by))
    (subst (λ (l : List Item). FitsOrStops case.trace.now mid.reader new.reader (at there event.router l) (at (with_traffic (with_state after event.router t) new.traffic.traffic) event.router []) fits) (append-nil ends.left)
    (subst (λ (r : List State). FitsOrStops case.trace.now mid.reader new.reader (at there event.router (ends.left ++ [])) (at (record after { routers = r; traffic = new.traffic.traffic }) event.router []) fits) (set-set after.routers event.router ends.is t) told))

-- however it leaves the router, that has neighbours with addresses
opened_addresses : {net after : NetState} {y x : ℕ} {text : List ℕ} {By : State → List Item → Type 0} {trace : List ℕ} {old new : Reader} {reads : Bool} → OpensAlone net y text x By after →
    TakesText trace old new text reads → reads ≡ true → (s : Scenario) (lines : List (List ℕ)) → Reaches s lines (at net y []) → (is : State) (left : List Item) → By is left → HasAddresses is
opened_addresses {net} {after} {y} {x} opens takes good s lines (first, is_first, leads) is left by =
    let took = takes.takes good in
    let q : TracePosition = at (with_state after x is) x left in
    (positions_have_addresses s (lines ++ took.line ∷ []) q
    (first, is_first, walks_on first (at net y []) q lines (took.line ∷ []) leads (q, opens.leads took.line is left took.is by, refl))).addresses x is (opens.stands is)

-- ---- other relays

pub sound_with : (s : State) (relays : Relays) → IsSoundRouter s → IsSoundRouter (with_relays s relays)
sound_with s relays sound = record { bases = sound.bases; rows = rows_stay s (with_relays s relays) (λ o n. (λ has. has, λ has. has)) refl s.rows sound.rows }

-- ---- all routers

-- what was read at a place of a list stands there
pub read_at : {A : Type 0} {xs ys : List A} {i : ℕ} {x : A} → xs ≡ ys → i < length ys → x ≡ get_or xs i x → slice_get ys i ≡ Some x
read_at {ys = ys} {i = i} {x = x} same below is = slice_get_read ys (length ys) i x refl below (subst (λ (l : List _). x ≡ get_or l i x) same is)

pub state_at : {A : Type 0} (state : A → State) (routers : List A) {x : ℕ} {here : A} → x < length (map state routers) → here ≡ get_or routers x here → slice_get (map state routers) x ≡ Some (state here)
state_at state routers {x} {here} below is =
    let inside : x < length routers = (let same = length-map routers state in omega (arith, below, same)) in mapped_at state routers x here (read_at refl inside is)

pub router_within : {s : Scenario} {routers : List State} {x : ℕ} → AreAtRest s routers → x < length s.routers → x < length routers
router_within are below = let count = are.count in omega (arith, count, below)

pub settings_same : {s : Scenario} {routers : List State} {was : State} {r : RouterSettings} (x : ℕ) → AreAtRest s routers → slice_get s.routers x ≡ Some r → slice_get routers x ≡ Some was → was.settings ≡ r
settings_same {s} {was = was} {r = r} x are there stands = same_at s.routers x was.settings r (are.settings x was stands) there

-- one of them is replaced, and stays between events where its lines fit
pub routers_kept : {case : Case} {old new : Progress} {event : CheckedEvent} {By : State → List Item → Type 0} {t : State} {fits : Bool} (routers : List State) (was : State) → AreAtRest case.scenario.now routers →
    slice_get routers event.router ≡ Some was → was.settings ≡ event.settings.now → EndsEvent case old new event By t fits → KeepsRouters case new (slice_set routers event.router t) fits
routers_kept {event = event} {t = t} routers was are stands same ends = record {
  progress_is = ends.tells.progress;
  kept = λ yes. record {
    count = set_length routers event.router t ∙ are.count;
    settings = λ y u at. elim (set_at routers event.router t y u at) [
      | inl (here, is) ↦ rw (here, is, ends.tells.settings, sym same) (are.settings event.router was stands)
      | inr (there, stood) ↦ are.settings y u stood
    ];
    kept = λ y u at. elim (set_at routers event.router t y u at) [
      | inl (here, is) ↦ subst IsAtRest (sym is) (ends.tells.kept yes)
      | inr (there, stood) ↦ are.kept y u stood
    ];
  };
}

-- ---- the next event

module _ {case : Case} {net : NetState} {flights : Traffic} {next : NextEvent} (is : IsNextEvent case net flights next) where
  pub next_within : next.router < length case.scenario.now.routers
  next_within = slice_get_within case.scenario.now.routers next.router is.settings is.settings_are

  pub next_comes : {event : CheckedEvent} → slice_get case.scenario.now.routers next.router ≡ Some event.settings.now → (heard : ComingFrame) → next.heard ≡ Some heard → event.moment ≡ next.moment → IsComing event heard
  next_comes there heard is_heard now = grind (arith, common_steps, same_at)

module _ (case : Case) (old : Progress) (next : NextEvent) {routers : List State} {was : State} {settings : RouterSettings} {reader : Reader} {reads : Bool} (kept : AreAtRest case.scenario.now routers)
    (there : slice_get case.scenario.now.routers next.router ≡ Some settings) (stands : slice_get routers next.router ≡ Some was)
    (takes : TakesText case.trace.now old.reader reader (opening_text settings next.moment next.heard) reads) (count : ℕ) (before : Progress) (is : IsNextEvent case (net_of case routers count before) old.traffic.traffic next) where
  opens : (y : ℕ) → OpensAlone (net_of case routers count before) y (opening_text settings next.moment next.heard) next.router (EventBy next.moment next.heard was) (net_of case routers next.last_ticks old)
  opens y = subst (λ (r : RouterSettings). OpensAlone (net_of case routers count before) y (opening_text r next.moment next.heard) next.router (EventBy next.moment next.heard was) (net_of case routers next.last_ticks old))
      (settings_same next.router kept there stands) (is.opens y was stands)

  -- its line isn't there
  pub next_not : (y : ℕ) (q : TracePosition) → reads ≡ false → FitsOrStops case.trace.now old.reader reader (at (net_of case routers count before) y []) q false
  next_not y q bad = opened_not (opens y) takes q bad

  -- the router may begin, since lines lead there
  pub next_begins : {event : CheckedEvent} → event.settings.now ≡ settings → reads ≡ true → IsReachedNet case (net_of case routers count before) → MayBegin event was (EventBy next.moment next.heard was)
  next_begins same good (lines, y, reaches) = record {
    settings = settings_same next.router kept there stands ∙ sym same;
    kept = kept.kept next.router was stands;
    addresses = opened_addresses (opens y) takes good case.scenario.now lines reaches;
  }

  -- what follows its line
  pub next_on : {event : CheckedEvent} {new : Progress} {t : State} {fits : Bool} → event.router ≡ next.router → reads ≡ true → EndsEvent case (record old { reader = reader }) new event (EventBy next.moment next.heard was) t fits → (y : ℕ) →
      FitsOrStops case.trace.now old.reader new.reader (at (net_of case routers count before) y []) (at (net_of case (slice_set routers next.router t) next.last_ticks new) next.router []) fits
  next_on {event} {new} {t} {fits} place good ends y =
      subst (λ (x : ℕ). OpensAlone (net_of case routers count before) y (opening_text settings next.moment next.heard) x (EventBy next.moment next.heard was) (net_of case routers next.last_ticks old) →
      FitsOrStops case.trace.now old.reader new.reader (at (net_of case routers count before) y []) (at (net_of case (slice_set routers x t) next.last_ticks new) x []) fits) place
      (λ o. opened_on o takes good ends refl refl) (opens y)

-- ---- The relays of an event are told, and then what it sends.

-- the relay lines don't all fit
pub event_not : {case : Case} {old new : Progress} {event : CheckedEvent} {s : State} (lines : EventLines) → MayBeIn event s → StopsRelays case old new event.router s → TellsWholeEvent case old new event s (event_items s lines) s false
event_not {s = s} lines is_in stops =
    record { progress = stops.progress; settings = is_in.settings; kept = λ yes. absurd cc; leads = leads_not (leads_before (sent_items s lines) stops.stops) refl }

-- the router with the relays that were told
pub in_again : {event : CheckedEvent} {s t : State} {relays : Relays} → MayBeIn event s → t ≡ with_relays s relays → MayBeIn event t
in_again {event} is_in t_is = subst (MayBeIn event) (sym t_is) (record { settings = is_in.settings; last = is_in.last })

pub sound_again : {s t : State} {relays : Relays} → IsSoundRouter s → t ≡ with_relays s relays → IsSoundRouter t
sound_again {s} {relays = relays} sound t_is = subst IsSoundRouter (sym t_is) (sound_with s relays sound)

-- and what is sent
pub event_told : {case : Case} {old mid new : Progress} {event : CheckedEvent} {s t : State} {relays : Relays} {fits : Bool} (lines : EventLines) → MayBeIn event s → IsSoundRouter s → HasRelays case old mid event.router s relays →
    t ≡ with_relays s relays → TellsItems case mid new event (λ u. u ≡ t) (λ u. sent_items t lines) (λ u. []) fits → TellsWholeEvent case old new event s (event_items s lines) t fits
event_told {case} {old} {mid} {new} {event} {s} {t} {fits = fits} lines is_in sound has t_is sent = record {
  progress = sent.progress;
  settings = (in_again is_in t_is).settings;
  kept = λ yes. record { sound = sound_again sound t_is; relays = subst (λ (u : State). AreRelays u u.last) (sym t_is) has.chosen };
  leads = subst (λ (u : State). LeadsPast case mid new event.router t t (sent_items u lines) [] fits → LeadsPast case old new event.router s t (relay_items s.settings ++ sent_items s lines) [] fits) (sym t_is)
      (λ leads. leads_on (leads_before (sent_items s lines) (subst (λ (u : State). LeadsPast case old mid event.router s u (relay_items s.settings) [] true) (sym t_is) has.leads)) refl leads)
      (sent.told t (in_again is_in t_is) refl);
}

-- an event that begins
pub begun_by : {event : CheckedEvent} {was is : State} {now : ℕ} {By : State → List Item → Type 0} {lines : EventLines} → MayBegin event was By → BeginsEvent was now is lines → now ≡ event.moment → HasAddresses is →
    IsBegun event is lines.before
begun_by may begins moment addresses = grind (arith, common_steps)

-- a frame with a fault changes nothing, and nothing is told behind its line
pub refused_ends : {case : Case} {progress : Progress} {event : CheckedEvent} {was : State} {By : State → List Item → Type 0} → MayBegin event was By → IsProgress case progress → By was [] →
    EndsEvent case progress progress event By was true
refused_ends {was = was} may progress by = record {
  is = was;
  left = [];
  by = by;
  tells = record { progress = progress; settings = may.settings; kept = λ yes. may.kept; leads = leads_nowhere };
}
