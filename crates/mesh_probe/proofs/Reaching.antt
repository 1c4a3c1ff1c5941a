-- What the laws of floods say of a coverage.
use Rattle.mesh_probe.proofs.Common.{common_steps, ◌≡◌, ◌≢◌, ℕ, ◌<◌, ◌≤◌, inl, inr, sym, ◌∙◌, ap, subst, arith, List, [], length, Contains, Option, None, map, slice_index_or, Result, IsSome, IsTrue, IfOk, nat_le, AllPairs, leb-false, cases_Bool, length-map, get_or-map, Scenario, FloodKey, Noted, Base, base_of, find, flood_eq, OriginatorOf, AreStates, State, NotedMessages, HasNoted, HasFullSet, is_full, Coverage, NoNumber, Done, Sending, Transmission, AreUnknown, AreSentApart, IsUnknown, FloodReaches, FloodSendsOnce, key_of_tc, tc_key, AreRoutersAt, AreReached, HasLeastNumber, IfDone, ReachesAll, SendsOnce, ProbesReach, ProbesSendOnce, TellsFlood, sending_of, contains_map, same_some}
use Rattle.mesh_probe.specs.declared.coverage.Probe.{Probe}

-- What no router knows

none : {A : Type 0} (o : Option A) → (IsSome o → ⊥) → o ≡ None
none o never = grind (arith, common_steps)

roomy : (base : Base FloodKey Noted) → (IsTrue (is_full base) → ⊥) → length base < 16384
roomy base never = elim (cases_Bool (nat_le 16384 (length base))) [ inl full ↦ absurd (never full) | inr room ↦ leb-false 16384 (length base) room ]

unknown : (key : FloodKey) (noted : NotedMessages) → (HasNoted noted key → ⊥) → (HasFullSet noted → ⊥) → IsUnknown key noted
unknown key noted never_noted never_full = record {
  received = λ j. none (find flood_eq (base_of noted.received j) key) (λ has. never_noted (inl (j, has)));
  forwarded = none (find flood_eq noted.forwarded key) (λ has. never_noted (inr (inr has)));
  room_received = λ j. roomy (base_of noted.received j) (λ full. never_full (inl (j, full)));
  room_forwarded = roomy noted.forwarded (λ full. never_full (inr (inr full)));
}

-- frames apart are of different senders
mapped_apart : (ts : List Transmission) → AllPairs AreSentApart ts → AllPairs ◌≢◌ (map sending_of ts)
mapped_apart ts apart i j d l n e =
    let t : Transmission = record { router = 0; frame = record { iface = 0; bytes = [] } } in
    let count = length-map ts sending_of in
    let at_i : slice_index_or (map sending_of ts) i d ≡ sending_of (slice_index_or ts i t) = get_or-map sending_of ts i t d (omega (arith, l, n, count)) in
    let at_j : slice_index_or (map sending_of ts) j d ≡ sending_of (slice_index_or ts j t) = get_or-map sending_of ts j t d (omega (arith, n, count)) in
    let same : sending_of (slice_index_or ts i t) ≡ sending_of (slice_index_or ts j t) = sym at_i ∙ e ∙ at_j in
    apart i j t l (omega (arith, n, count)) (ap (λ (f : Sending). f.router) same) (ap (λ (f : Sending). f.iface) same)

-- The laws

module _ (s : Scenario) (old new : List State) (now origin : ℕ) where
  reaches : FloodReaches → (c : Coverage) → HasLeastNumber s old origin (Done c) → TellsFlood s old now origin new (Done c) → AreReached s origin c → ReachesAll s old now origin c
  reaches law c number (heard, f, sends) reached p at settled willing enough never_full z joined other =
      let is : p ≡ f.p = same_some at.is f.at.is in
      let limit : length s.routers ≤ f.p.settings.times.tc_hop_limit = subst (λ (q : State). length s.routers ≤ q.settings.times.tc_hop_limit) is enough in
      let owner : OriginatorOf s origin f.tc.originator = (f.p.settings, settled.routers.settings origin f.p f.at, f.tc_is.originator) in
      let free : AreUnknown old f.tc =
      λ x q there.
      unknown (key_of_tc f.tc) q.bases.noted
      (λ has. number.0 (f.tc.originator, owner, (x, q, there, subst (λ n. HasNoted q.bases.noted (tc_key f.tc.originator n)) f.tc_is.sequence has)))
      (never_full x q there) in
      let (t, j, stands, hears) = law s old now origin f.tc f.p.settings.times.tc_hop_limit heard new settled willing limit free f.flood z joined other in
      let sent : Contains c.sends (sending_of t) = subst (λ ts. Contains ts (sending_of t)) (sym sends) (contains_map sending_of heard t stands) in
      (reached.each z).1 (other, (sending_of t, j, sent, hears))

  once : FloodSendsOnce → (c : Coverage) → AreStates s old → TellsFlood s old now origin new (Done c) → SendsOnce c
  once law c routers (heard, f, sends) =
      subst (λ (fs : List Sending). AllPairs ◌≢◌ fs) (sym sends)
      (mapped_apart heard (law s old now origin f.tc f.p.settings.times.tc_hop_limit heard new routers f.flood))

pub probes_reach : FloodReaches → ProbesReach
probes_reach law s old new now origin NoNumber number flood reached = tt
probes_reach law s old new now origin (Done c) number flood reached = reaches s old new now origin law c number flood reached

pub probes_send_once : FloodSendsOnce → ProbesSendOnce
probes_send_once law s old new now origin NoNumber routers flood = tt
probes_send_once law s old new now origin (Done c) routers flood = once s old new now origin law c routers flood

module _ (s : Scenario) (old new : List State) (now origin : ℕ) {E : Type 0} where
  pub done_reaches : FloodReaches → (r : Result Probe E) → IfOk r (HasLeastNumber s old origin) → IfOk r (TellsFlood s old now origin new) →
      IfOk r (IfDone (AreReached s origin)) → IfOk r (IfDone (ReachesAll s old now origin))
  done_reaches law r number flood reached = grind (arith, common_steps, probes_reach)

  pub done_once : FloodSendsOnce → AreRoutersAt s old now → (r : Result Probe E) → IfOk r (TellsFlood s old now origin new) → IfOk r (IfDone SendsOnce)
  done_once law routers r flood = grind (arith, common_steps, probes_send_once)
