-- What an event leaves of a router before its relays are told.
use Rattle.mesh_replay.proofs.Common.{common_steps, ℕ, zero, suc, ◌≤◌, ◌<◌, sym, subst, arith, List, length, ◌≡◌, ◌+◌, ◌%◌, ◌∙◌, Bool, false, [], IsTrue, map, refl, ap, ◌++◌, inl, inr, append-nil, All, nat_eq, All-nil, All-push, All-append, Addr4, RouterSettings, Tc, Bases, NotedMessages, State, Neighbourhood, Frame, on_each, length-map, HasToAdvertise, IsNextMoment, PartSpan, part_of, TcsDue, Tcs_due, part_items, Follows, HearsBy, Taken, TicksBy, tc_items, AreFewRows, HasLines, IsAtRest, IsSoundRouter, StandAgain, event_items, hello_items, with_relays, router_state, AreRelays, Derived, IsOpening, Item, Sent, relay_items, Before, EventLines, BeginsDerived, BeginsEvent, TakesDueLines}
use Rattle.mesh_trace.specs.machine.packet.declared.packet.Span.{Span}
use Rattle.mesh_trace.specs.machine.packet.Fields.{MessageFields}
use Rattle.mesh_trace.specs.machine.flood.declared.verdict.Heading.{Heading}
use Rattle.mesh_trace.specs.machine.flood.declared.verdict.Forward.{Forward}
use Rattle.mesh_trace.specs.machine.declared.arrival.Arrival.{Arrival}
use Rattle.mesh_trace.specs.machine.declared.fate.Fate.{Fate}
use Rattle.mesh_trace.specs.machine.Messages.{ConsidersForwarding, ProcessesTc, Tc_taken, Tc_passed, TakesMessage, Hello_read, Hello_broken, Tc_read, Tc_broken, Other_passed, Other_left, TakesMessages, No_messages, First_message, forwarding}
use Rattle.mesh_atoms.specs.Advertised.{AreParts, AreTcRows}
use Rattle.mesh_atoms.specs.Live.{Live}
use Rattle.mesh_bases.proofs.HeldLemmas.Taken.{live_held}
use Rattle.mesh_bases.proofs.Staying.{relays_kept, rows_kept}
use Rattle.mesh_bases.specs.Held.Held.{Held}
use Rattle.mesh_bases.specs.Held.Taking.{TakesFrame}
use Rattle.mesh_bases.specs.Renewed.{HasNext}
use Rattle.mesh_nbrs.specs.Same.{SameNear}
use Rattle.mesh_routes.proofs.SameBases.{tables_of}
use Rattle.mesh_trace.specs.machine.Laws.{SoundBases}
use Rattle.mesh_trace.proofs.machine.Opening.{opening_sound}
use Rattle.mesh_trace.proofs.machine.Soundness.{bases_of}
use Rattle.mesh_trace.proofs.machine.nhdp.TcCounts.{tc_rows_few}

-- ---- What a router forwards goes out on interfaces that it has.

-- on one of so many interfaces
abbrev Within : ℕ → Frame → Type 0
Within n f = f.iface < n

each_within : (count n : ℕ) (bytes : List ℕ) → n ≤ count → All (Within count) (on_each n bytes)
each_within count zero bytes below = All-nil (Within count)
each_within count (suc i) bytes below = grind (arith, common_steps, All-push, (each_within count i bytes (omega (arith, below))))

forwarding_within : (count : ℕ) (octets : List ℕ) (answer : Forward) → All (Within count) (forwarding count octets answer)
forwarding_within count octets answer = grind (arith, common_steps, each_within, All-nil)

module _ (settings : RouterSettings) (own : Addr4) (arrival : Arrival) where
  considered_within : (heading : Heading) (octets : List ℕ) (is_done : Bool) (old : Bases) (noted : NotedMessages) (sent : List Frame) (answer : Forward) →
      ConsidersForwarding settings own arrival heading octets is_done old noted sent answer → All (Within (length settings.interfaces)) sent
  considered_within heading octets is_done old noted sent answer considered = grind (arith, common_steps, forwarding_within)

  processed_within : (old : Bases) (tc : Tc) (heading : Heading) (octets : List ℕ) (new : Bases) (sent : List Frame) (fate : Fate) →
      ProcessesTc settings own arrival old tc heading octets new sent fate → All (Within (length settings.interfaces)) sent
  processed_within old tc heading octets new sent fate (Tc_taken {noted = noted} {answer = answer} {sent = frames} {onward = onward} does takes considered) =
      considered_within heading octets _ old noted frames onward considered
  processed_within old tc heading octets new sent fate (Tc_passed {noted = noted} {sent = frames} {onward = onward} not considered) =
      considered_within heading octets _ old noted frames onward considered

  message_within : (old : Bases) (message : MessageFields) (octets : List ℕ) (new : Bases) (sent : List Frame) (fate : Fate) →
      TakesMessage settings own arrival old message octets new sent fate → All (Within (length settings.interfaces)) sent
  message_within old message octets new sent fate (Hello_read hello kind keeps reads takes) = All-nil (Within (length settings.interfaces))
  message_within old message octets new sent fate (Hello_broken net kind broken) = All-nil (Within (length settings.interfaces))
  message_within old message octets new sent fate (Tc_read tc heading kind keeps reads is processes) = processed_within old tc heading octets new sent fate processes
  message_within old message octets new sent fate (Tc_broken net kind broken) = All-nil (Within (length settings.interfaces))
  message_within old message octets new sent fate (Other_passed {noted = noted} {sent = frames} {onward = onward} heading no_hello no_tc is considered) =
      considered_within heading octets _ old noted frames onward considered
  message_within old message octets new sent fate (Other_left no_hello no_tc none) = All-nil (Within (length settings.interfaces))

  pub messages_within : (bytes : List ℕ) (old : Bases) (messages : List MessageFields) (spans : List Span) (new : Bases) (sent : List Frame) (fates : List Fate) →
      TakesMessages settings own arrival bytes old messages spans new sent fates → All (Within (length settings.interfaces)) sent
  messages_within bytes old messages spans new sent fates No_messages = All-nil (Within (length settings.interfaces))
  messages_within bytes old messages spans new sent fates (First_message {mid = mid} {message = message} {messages = rest} {span = span} {spans = ends} {sent = one} {more = more} {fate = fate} {fates = others} takes takes_rest) = grind (arith, common_steps, All-append, message_within, (messages_within bytes mid rest ends new more others takes_rest))

-- ---- What an event leaves of a router before its relays are told.

-- ---- The TCs that are due, by the parts of the rows.

pub tcs_due : (old s : State) (n : ℕ) (parts : List PartSpan) → old.sequence ≡ n → old.next_tc ≤ s.last → IsNextMoment s.settings.tc_at s.settings.times.tc s.last s.next_tc → HasToAdvertise s →
    AreParts s.settings.tc_rows s.rows (map (part_of s.rows) parts) → s.sequence ≡ (n + length parts) % 65536 → TcsDue old s (tc_items s n parts)
tcs_due old s n parts first late next has cut number =
    let count : length (map (part_of s.rows) parts) ≡ length parts = length-map parts (part_of s.rows) in
    subst (λ (k : ℕ). TcsDue old s (part_items (nat_eq (length parts) 1) k (map (part_of s.rows) parts))) first
    (subst (λ (k : ℕ). TcsDue old s (part_items (nat_eq k 1) old.sequence (map (part_of s.rows) parts))) count
    (Tcs_due late next has (map (part_of s.rows) parts) cut (number ∙ (ap (λ (k : ℕ). (k + length parts) % 65536) (sym first) ∙ ap (λ (k : ℕ). (old.sequence + k) % 65536) (sym count)))))

-- ---- What an event leaves of a router before its relays are told.

-- a router before its first event is kept
pub kept_at_opening : (settings : RouterSettings) (s : State) → IsOpening settings s → IsAtRest s
kept_at_opening settings s is =
    let sound = opening_sound settings s is in record { sound = record { bases = bases_of s sound; rows = sound.rows }; relays = sound.relays }

-- the bases of a router between events were changed, and are sound at now; where that was quiet, the neighbourhood changed by moments alone
pub record ChangesBases (old : State) (held : Held) (now : ℕ) (quiet : Bool) : Type 0 where
  pub rest : IsAtRest old
  pub settings : held.settings ≡ old.settings
  pub sound : SoundBases held.settings now held.bases
  pub quiet_is : IsTrue quiet → SameNear old.bases.neighbourhood old.last held.bases.neighbourhood now

-- what is expired went out of the bases of a router between events
pub expired : (h0 h1 : Held) (d0 : Derived) {now : ℕ} {quiet : Bool} → IsAtRest (router_state h0 d0) → h1.settings ≡ h0.settings → Live h0.settings now h0.bases h1.bases →
    (IsTrue quiet → SameNear h0.bases.neighbourhood d0.last h1.bases.neighbourhood now) → ChangesBases (router_state h0 d0) h1 now quiet
expired h0 h1 d0 {now} rest same live quiet = record { rest = rest; settings = same; sound = live_held h0 h1 d0.last now rest.sound.bases live same; quiet_is = quiet }

-- by the settings and the neighbourhood that were lent
pub begun : (h : Held) {settings : RouterSettings} {near : Neighbourhood} {now : ℕ} {quiet : Bool} {d0 d1 : Derived} {before : Before} → settings ≡ h.settings → near ≡ h.bases.neighbourhood →
    BeginsDerived settings near now quiet d0 d1 before → BeginsDerived h.settings h.bases.neighbourhood now quiet d0 d1 before
begun h settings near begins = rw (← settings, ← near) begins

pub by_settings : {settings lent : RouterSettings} {d1 d2 : Derived} {before : Before} {lines : EventLines} → lent ≡ settings → TakesDueLines lent d1 d2 before lines → TakesDueLines settings d1 d2 before lines
by_settings same takes = rw (← same) takes

module _ {h0 h1 : Held} {d0 d1 : Derived} {now : ℕ} {quiet : Bool} {before : Before} (changes : ChangesBases (router_state h0 d0) h1 now quiet)
    (begins : BeginsDerived h1.settings h1.bases.neighbourhood now quiet d0 d1 before) (d2 : Derived) (others : d2 ≡ record d1 { next_hello = d2.next_hello; next_tc = d2.next_tc; sequence = d2.sequence }) where
  last_is : d2.last ≡ now
  last_is = ap (λ (d : Derived). d.last) others ∙ ap (λ (d : Derived). d.last) begins.others

  rows_of : d2.rows ≡ d1.rows
  rows_of = ap (λ (d : Derived). d.rows) others

  rows_are : AreTcRows (router_state h1 d2) d2.rows
  rows_are = elim begins.rows [
    | inl (is, same) ↦ rows_kept (router_state h0 d0) (router_state h1 d2) now changes.rest.sound.bases.neighbourhood (tables_of changes.sound.neighbourhood) changes.settings (changes.quiet_is is) (rows_of ∙ same) changes.rest.sound.rows
    | inr gives ↦ subst (AreTcRows (router_state h1 d2)) (sym rows_of) (gives (router_state h1 d2) refl refl)
  ]

  sound_after : IsSoundRouter (router_state h1 d2)
  sound_after = record { bases = subst (λ (n : ℕ). SoundBases h1.settings n h1.bases) (sym last_is) changes.sound; rows = rows_are }

  pub few_rows : AreFewRows d2.rows
  few_rows = tc_rows_few (router_state h1 d2) d2.last d2.rows sound_after.bases.neighbourhood rows_are

  follows_so : Follows (router_state h0 d0) now h1.bases (router_state h1 d2)
  follows_so = grind (arith, common_steps, last_is, rows_are)

  stands : StandAgain (router_state h1 d2) before
  stands good = subst (AreRelays (with_relays (router_state h1 d2) before.relays)) (sym last_is)
      (relays_kept (router_state h0 d0) (with_relays (router_state h1 d2) before.relays) now changes.rest.sound.bases.neighbourhood (tables_of changes.sound.neighbourhood) changes.settings (changes.quiet_is (begins.stand good)) begins.relays changes.rest.relays)

  begins_so : {lines : EventLines} → HasLines (router_state h1 d2) lines → lines.before ≡ before → BeginsEvent (router_state h0 d0) now (router_state h1 d2) lines
  begins_so lines_are same = record { bases = h1.bases; follows = follows_so; sound = sound_after; stand = subst (StandAgain (router_state h1 d2)) (sym same) stands; lines_are = lines_are }

-- a tick, with the HELLOs and TCs that are due
module _ {h0 h1 : Held} {d0 d1 d2 : Derived} {now : ℕ} {quiet : Bool} {before : Before} (changes : ChangesBases (router_state h0 d0) h1 now quiet)
    (begins : BeginsDerived h1.settings h1.bases.neighbourhood now quiet d0 d1 before) (lines : EventLines) (takes : TakesDueLines h1.settings d1 d2 before lines) where
  pub ticks_so : Live h0.settings now h0.bases h1.bases → TicksBy (router_state h0 d0) now (router_state h1 d2) (event_items (router_state h1 d2) lines)
  ticks_so live =
      let s = router_state h1 d2 in
      let next : HasNext (router_state h0 d0) d1 = record {
        sequence = sym (ap (λ (d : Derived). d.sequence) begins.others);
        next_hello = sym (ap (λ (d : Derived). d.next_hello) begins.others);
        next_tc = sym (ap (λ (d : Derived). d.next_tc) begins.others);
      } in
      record {
        live = h1.bases;
        is_live = live;
        follows = follows_so changes begins d2 takes.others;
        hellos = hello_items s lines.hellos;
        are_hellos = takes.hellos (router_state h0 d0) h1 next refl;
        tcs = tc_items s lines.sequence lines.parts;
        are_tcs = takes.tcs (router_state h0 d0) h1 next refl;
        whole = ap (λ (l : List Item). relay_items h1.settings ++ (hello_items s lines.hellos ++ l))
            (ap (λ (l : List Frame). tc_items s lines.sequence lines.parts ++ map Sent l) takes.none ∙ append-nil (tc_items s lines.sequence lines.parts));
      }

  pub tick_begins : BeginsEvent (router_state h0 d0) now (router_state h1 d2) lines
  tick_begins = begins_so changes begins d2 takes.others (record {
    within = takes.within;
    faces = subst (λ (l : List Frame). All (λ (f : Frame). f.iface < length h1.settings.interfaces) l) (sym takes.none) (All-nil (λ (f : Frame). f.iface < length h1.settings.interfaces));
  }) takes.before_is

-- a frame, with what its messages forward
module _ {h0 h1 : Held} {d0 d1 : Derived} {arrival : Arrival} {bytes : List ℕ} {quiet : Bool} {before : Before} {given : List Fate} {sent : List Frame} (changes : ChangesBases (router_state h0 d0) h1 arrival.now quiet)
    (begins : BeginsDerived h1.settings h1.bases.neighbourhood arrival.now quiet d0 d1 before) (takes : TakesFrame h0.settings h0.bases arrival bytes given sent h1.bases) (lines : EventLines) (hellos : lines.hellos ≡ false)
    (parts : lines.parts ≡ []) (out : lines.out ≡ sent) where
  pub hears_so : HearsBy (router_state h0 d0) arrival bytes (router_state h1 d1) (event_items (router_state h1 d1) lines)
  hears_so = rw (hellos, parts, out) (Taken (record {
    packet = takes.packet;
    spans = takes.spans;
    spelled = takes.spelled;
    own = takes.own;
    is_own = takes.is_own;
    live = takes.live;
    is_live = takes.is_live;
    bases = h1.bases;
    fates = given;
    takes = takes.takes;
    follows = follows_so changes begins d1 refl;
    sequence = ap (λ (d : Derived). d.sequence) begins.others;
    next_hello = ap (λ (d : Derived). d.next_hello) begins.others;
    next_tc = ap (λ (d : Derived). d.next_tc) begins.others;
  }))

  pub hearing_begins : lines.before ≡ before → BeginsEvent (router_state h0 d0) arrival.now (router_state h1 d1) lines
  hearing_begins same = begins_so changes begins d1 refl (record {
    within = λ i span at. absurd (let e = parts in cc);
    faces = rw (out, changes.settings) (messages_within h0.settings takes.own arrival bytes takes.live takes.packet.messages takes.spans h1.bases sent given takes.takes);
  }) same
